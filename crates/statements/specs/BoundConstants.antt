-- Statements with a value in place of one of their constants.
use Rattle.std.specs.Prelude.{◌≡◌, ◌⊎◌, false, [], Some}
use Rattle.statements.specs.StatementRows.{records_of}
use Rattle.statements.specs.Statements.{HasBegun}
use Rattle.statements.specs.declared.prepared.Statement.{Statement}
use Rattle.table_model.specs.Plans.{chosen}
use Rattle.table_model.specs.RunOutcomes.{ByEveryMatrix}
use Rattle.table_model.specs.SpatialTables.{SpatialDatabase, SpatialQuery}
use Rattle.table_model.specs.declared.queries.Explain.TheVariants as explains

-- the same query without its conditions
abbrev pub without_conditions : SpatialQuery → SpatialQuery
without_conditions query = record query { conjuncts = [] }

-- the query of a statement that has no rows any more: its rows are asked for, and LIMIT 0 leaves none
abbrev pub ended : SpatialQuery → SpatialQuery
ended query = record query { explain = explains.No; counts = false; limit = Some 0 }

-- what memory that ran out leaves of a query: it has no rows any more, and its conditions are as they were, or gone
abbrev pub IsEndedOf : SpatialQuery → SpatialQuery → Type 0
IsEndedOf old new = (new ≡ ended old) ⊎ (new ≡ ended (without_conditions old))

-- a statement is at its beginning, with the chosen plan
pub record HasBegunWithPlan (database : SpatialDatabase) (statement : Statement) : Type 0 where
  pub begun : HasBegun database statement
  pub plan : chosen database.tables statement.bound ≡ Some statement.plan

-- a statement that begins anew has no rows
abbrev pub StaysAtEnd : SpatialDatabase → Statement → Type 0
StaysAtEnd database statement = ByEveryMatrix (λ matrix. records_of matrix database statement.bound statement.plan ≡ [])
