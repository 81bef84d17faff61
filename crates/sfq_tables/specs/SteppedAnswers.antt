-- What the steps of a prepared statement give, all in all: the answer of its query.
use Rattle.std.specs.Prelude.{◌≡◌, ◌⊎◌, IsOk, ℕ, List, [], ◌∷◌, Option, Some, None, Ok, length, map}
use Rattle.feature_table.specs.GeometryFields.{reading}
use Rattle.feature_table.specs.Tables.{records_in, tables_in}
use Rattle.kept_tables.specs.KeptLaws.{IsLoadedFrom}
use Rattle.kept_tables.specs.KeptTables.{IsKept, lent}
use Rattle.library_calls.specs.Refusals.{none_there, ok}
use Rattle.query_runs.specs.RecordTexts.{record_text}
use Rattle.sfq_tables.specs.Connections.{Connected}
use Rattle.sfq_tables.specs.OpenStatements.{HasPrepared, HasStepped, busy}
use Rattle.statements.specs.StatementTexts.{rows_text}
use Rattle.statements.specs.Statements.{row_record}
use Rattle.statements.specs.declared.prepared.Statement.{Statement}
use Rattle.table_model.specs.Loading.{Record}
use Rattle.table_model.specs.RunOutcomes.{ByEveryMatrix, outcome}
use Rattle.table_model.specs.SpatialTables.{SpatialDatabase}

-- a step that was made: within how many looks, its status, and the statement after it
pub record StepMade : Type 0 where
  pub most : ℕ
  pub status : ℕ
  pub after : Statement

-- steps of a statement, one after another: each finds a row or is busy, but the last, which finds that none is left
abbrev pub StepToEnd : SpatialDatabase → Statement → List StepMade → Type 0
StepToEnd database before [] = ⊥
StepToEnd database before (step ∷ more) =
    HasStepped step.most database before step.status (Some step.after)
    × (((step.status ≡ none_there) × (more ≡ []))
    ⊎ (((step.status ≡ ok) ⊎ (step.status ≡ busy)) × StepToEnd database step.after more))

-- a row, if one is there, before others
abbrev pub with_row : Option Record → List Record → List Record
with_row (Some fields) more = fields ∷ more
with_row None more = more

-- the rows that are there after these steps, in order
abbrev pub rows_given : SpatialDatabase → List StepMade → List Record
rows_given database [] = []
rows_given database (step ∷ more) = with_row (row_record database step.after) (rows_given database more)

-- the header and the rows that the steps of a prepared statement give, written in order, are what `run` writes of the text of its query
-- over the texts that the tables were loaded from (SQL, the query)
abbrev pub StepsGiveRuns : Type 0
StepsGiveRuns = ByEveryMatrix (λ matrix. (before after : Connected) (text : List ℕ) (number : ℕ) (texts : List (List ℕ)) (steps : List StepMade)
    (prepared : HasPrepared before text number after)
    → IsKept before.database → length texts ≡ length before.database.definitions → IsLoadedFrom before.database texts
    → IsOk (tables_in reading before.database.definitions texts)
    → StepToEnd (lent before.database) prepared.statement steps
    → outcome record_text matrix before.database.definitions (map records_in texts) text
    ≡ Ok (rows_text (lent before.database) prepared.statement.bound (rows_given (lent before.database) steps)))
