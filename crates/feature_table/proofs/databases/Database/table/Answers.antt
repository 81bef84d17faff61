-- Whoever keeps the tables, there is one for each definition.
use Rattle.std.proofs.Common.{◌≡◌, ◌∙◌, ◌<◌, ap, arith, get_or, length, slice_get, subst, sym, List, Some, ℕ}
use Rattle.basics.proofs.Lists.{read_at}
use Rattle.feature_table.specs.GeometryFields.{GeometryValue, ShapeValue}
use Rattle.feature_table.specs.HeldTables.{rows_of}
use Rattle.table_model.specs.Databases.{Database}
use Rattle.table_model.specs.Meanings.{Table}
use Rattle.feature_table.proofs.databases.Database.table.Goals as goal

-- a table that is read of the list of them is that of the database
read : (database : Database ShapeValue GeometryValue) (held : List (Table GeometryValue)) (i : ℕ) (table : Table GeometryValue)
    → held ≡ database.tables → length held ≡ length database.definitions → i < length database.definitions
    → table ≡ get_or held i table → slice_get database.tables i ≡ Some table
read database held i table is many there at =
    let found = read_at held i table (omega (arith, many, there)) at in
    subst (λ (tables : List (Table GeometryValue)). slice_get tables i ≡ Some table) is found

pub returns-in-Own : goal.returns-in-Own
returns-in-Own g c =
    let view = c.self.view_is in
    let own = ap rows_of c.in-Own.is in
    let tables = ap (λ (d : Database ShapeValue GeometryValue). d.tables) view in
    let definitions = ap (λ (d : Database ShapeValue GeometryValue). length d.definitions) view in
    read c.args.self.now c.in-Own.tables.items c.args.i c.index.result.now (sym own ∙ tables)
    (omega (arith, ap length own, c.self.invariant.count, definitions)) c.requires c.index.ensures

pub returns-in-Lent : goal.returns-in-Lent
returns-in-Lent g c =
    let view = c.self.view_is in
    let lent = ap rows_of c.in-Lent.is in
    let tables = ap (λ (d : Database ShapeValue GeometryValue). d.tables) view in
    let definitions = ap (λ (d : Database ShapeValue GeometryValue). length d.definitions) view in
    read c.args.self.now c.in-Lent.tables.now.items c.args.i c.index-in-Lent.result.now (sym lent ∙ tables)
    (omega (arith, ap length lent, c.self.invariant.count, definitions)) c.requires c.index-in-Lent.ensures
