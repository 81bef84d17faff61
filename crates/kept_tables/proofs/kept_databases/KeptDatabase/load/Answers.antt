-- The table that loaded is one of the definition at its place.
use Rattle.std.proofs.Common.{◌∙◌, Ok, ap, get_or, refl, sym}
use Rattle.std.proofs.lemmas.Option.{get_or_from_slice_get, slice_get_within}
use Rattle.feature_table.specs.GeometryFields.{reading}
use Rattle.feature_table.specs.Tables.{table_in}
use Rattle.kept_tables.specs.KeptTables.{KeptTables}
use Rattle.kept_tables.proofs.KeptLemmas.{put_at, put_kept}
use Rattle.table_model.specs.GeometryColumns.{ColumnShape}
use Rattle.table_model.specs.declared.definitions.TableDef.{TableDef}
use Rattle.kept_tables.proofs.kept_databases.KeptDatabase.load.Goals as goal

pub invariant_of-self : goal.invariant_of-self
invariant_of-self g c =
    let inside = c.self.inside in
    let kept : KeptTables = record { definitions = inside.schema; tables = inside.tables.items; loaded = inside.loaded.items } in
    put_kept kept c.self.invariant c.args.place c.table.result.now c.in_ok-table.table c.table.ensures.value
    c.in_ok-table.ensures.rows

pub returns-clause-loads : goal.returns-clause-loads
returns-clause-loads g c d =
    let inside = c.self.inside in
    let kept : KeptTables = record { definitions = inside.schema; tables = inside.tables.items; loaded = inside.loaded.items } in
    let place = c.args.place in
    let there = slice_get_within kept.definitions place c.table.result.now c.table.ensures.value in
    let same = ap (λ (k : KeptTables). get_or k.definitions place d) (sym c.self.view_is) in
    let here = get_or_from_slice_get kept.definitions place c.table.result.now d c.table.ensures.value in
    let loads = c.in_ok-table.ensures.loads c.args.text.now refl in
    ap (λ (t : TableDef ColumnShape). table_in reading t c.args.text.now) (same ∙ here) ∙ loads
    ∙ ap Ok (sym (put_at kept place c.in_ok-table.table c.self.invariant there))
