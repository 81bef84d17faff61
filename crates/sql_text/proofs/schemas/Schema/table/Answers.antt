use Rattle.std.proofs.Common.{◌≡◌, [], ◌∷◌, subst, sym, true}
use Rattle.table_model.specs.Definitions.{lawful}
use Rattle.table_model.specs.declared.definitions.TableDef.{TableDef}
use Rattle.table_model.specs.GeometryColumns.{ColumnShape}
use Rattle.sql_text.proofs.SchemaLemmas.{lawful_one}
use Rattle.sql_text.proofs.schemas.Schema.table.Goals as goal

pub returns-clause-lawful : goal.returns-clause-lawful
returns-clause-lawful c =
    let IsLawful : TableDef ColumnShape → Type 0 = λ t. lawful (t ∷ []) ≡ true in
    subst IsLawful (sym c.index-tables-place.is) (lawful_one c.tables.result.now c.args.place c.index-tables-place.result (rw c.tables.ensures.value c.requires) (rw c.tables.ensures.value c.tables.ensures.lawful))
