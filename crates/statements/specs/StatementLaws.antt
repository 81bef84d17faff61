-- What the rows of a statement write is what `run` writes.
use Rattle.std.specs.Prelude.{◌≡◌, Ok, Some}
use Rattle.query_runs.specs.RecordTexts.{record_text}
use Rattle.statements.specs.StatementRows.{records_of}
use Rattle.statements.specs.StatementTexts.{rows_text}
use Rattle.table_model.specs.Binding.{binding}
use Rattle.table_model.specs.GeometryColumns.{geometry_binding}
use Rattle.table_model.specs.Plans.{chosen}
use Rattle.table_model.specs.Queries.{SelectQuery}
use Rattle.table_model.specs.RunOutcomes.{MatrixOf, query_outcome}
use Rattle.table_model.specs.SpatialTables.{SpatialDatabase, SpatialQuery}
use Rattle.table_model.specs.declared.plans.Plan.{Plan}

-- the header and the rows of a bound query with its chosen plan, written in order, are the text of its answer (SQL, the query)
abbrev pub AnswersAreWritten : Type 0
AnswersAreWritten = (matrix : MatrixOf) (written : SelectQuery) (database : SpatialDatabase) (query : SpatialQuery) (plan : Plan)
    → binding geometry_binding database.definitions written ≡ Ok query → chosen database.tables query ≡ Some plan
    → query_outcome record_text matrix written database ≡ Ok (rows_text database query (records_of matrix database query plan))
