-- The tables of a database: its own, or those that something else keeps.
use Rattle.std.specs.Prelude.{List}
use Rattle.feature_table.specs.GeometryFields.{GeometryValue}
use Rattle.table_model.specs.Meanings.{Table}
use Rattle.feature_table.specs.declared.databases.HeldTables.{HeldTables}
use Rattle.feature_table.specs.declared.databases.HeldTables.TheVariants as held

-- the rows of each table, whoever keeps it
abbrev pub rows_of : {I : Type 0} → HeldTables I → List (Table GeometryValue)
rows_of (held.Own tables) = tables.items
rows_of (held.Lent tables) = tables.now.items
