-- Statements: queries that are read, bound and planned once, whose rows are found step by step.
use Rattle.std.specs.Prelude.{◌≡◌, ◌≤◌, ◌-◌, ⊤, ℕ, Bool, true, false, List, [], ◌∷◌, Option, Some, None, Result, Ok, Err, decimal, drop, take}
use Rattle.executor.specs.Looks.{IsNearer}
use Rattle.executor.specs.Pairs.{IsPlace, choice_of}
use Rattle.executor.specs.PausedRows.{IsOf, stream_of}
use Rattle.executor.specs.Streams.{Stream, looks_ahead, to_come, work_after, work_at_end}
use Rattle.statements.specs.StatementRows.{asks_for_rows, choice_record, records_by, records_of}
use Rattle.statements.specs.declared.phases.Phase.{Phase}
use Rattle.statements.specs.declared.phases.Phase.TheVariants as phases
use Rattle.statements.specs.declared.current_rows.CurrentRow.{CurrentRow}
use Rattle.statements.specs.declared.current_rows.CurrentRow.TheVariants as current
use Rattle.statements.specs.declared.prepared.Statement.{Statement}
use Rattle.statements.specs.declared.steps.StatementStep.{StatementStep}
use Rattle.statements.specs.declared.steps.StatementStep.TheVariants as steps
use Rattle.streams.specs.MemorySinks.{memory_bytes}
use Rattle.table_model.specs.BoundQueries.{IsBound, geometry_fits}
use Rattle.table_model.specs.Loading.{Record}
use Rattle.table_model.specs.Meanings.{referenced}
use Rattle.table_model.specs.Plans.{IsLawful}
use Rattle.table_model.specs.RunOutcomes.{ByEveryMatrix, MatrixOf}
use Rattle.table_model.specs.SpatialTables.{SpatialDatabase, SpatialTable}
use Rattle.table_model.specs.Work.{filters_of}
use Rattle.table_model.specs.declared.queries.Explain.{Explain}

-- ---- what is to come

-- the stream of rows or pairs of a statement, over the tables of a database
abbrev pub stream : SpatialDatabase → Statement → Stream
stream database statement =
    stream_of (referenced database.tables statement.bound.references) statement.bound (filters_of statement.bound statement.plan) statement.rows

-- the records that are still to come
abbrev pub records_left : MatrixOf → SpatialDatabase → Statement → List Record
records_left matrix database statement =
    records_by statement.phase database statement.bound statement.plan (to_come matrix (stream database statement))
    (work_at_end matrix (stream database statement)) (drop statement.given (memory_bytes statement.text))

-- the work so far
abbrev pub work_so_far : Statement → ℕ
work_so_far statement = statement.rows.progress.work

-- all work after the last row, where what comes next is this and the work of the stream ends with this number
abbrev pub work_by : Phase → ℕ → ℕ → ℕ
work_by phases.Rows now later = later
work_by (phases.Count counted) now later = later
work_by phases.Plan now later = now
work_by phases.Analysis now later = later
work_by phases.Lines now later = now
work_by phases.Nothing now later = now

-- all work after the last row
abbrev pub work_in_all : MatrixOf → SpatialDatabase → Statement → ℕ
work_in_all matrix database statement =
    work_by statement.phase (work_so_far statement) (work_at_end matrix (stream database statement))

-- ---- the row that is there

-- its record, if one is there
abbrev pub current_record : SpatialDatabase → Statement → CurrentRow → Option Record
current_record database statement current.Absent = None
current_record database statement (current.Pair pair) = Some (choice_record database statement.bound (choice_of pair))
current_record database statement (current.Count count) = Some (decimal count ∷ [])
current_record database statement (current.Line begin end) = Some (take (end - begin) (drop begin (memory_bytes statement.text)) ∷ [])

abbrev pub row_record : SpatialDatabase → Statement → Option Record
row_record database statement = current_record database statement statement.row

-- the row that is there is one that a query which asks for this gives, and its places in the tables are there
abbrev pub IsThere : Explain → List SpatialTable → CurrentRow → Type 0
IsThere explain tables current.Absent = ⊤
IsThere explain tables (current.Pair pair) = IsPlace tables pair × (asks_for_rows explain ≡ true)
IsThere explain tables (current.Count count) = asks_for_rows explain ≡ true
IsThere explain tables (current.Line begin end) = asks_for_rows explain ≡ false

-- ---- statements over a database

-- what comes next is what a query gives that asks for this and counts rows or gives them
abbrev pub IsPhaseOf : Explain → Bool → Phase → Type 0
IsPhaseOf explain counts phases.Rows = asks_for_rows explain ≡ true
IsPhaseOf explain counts (phases.Count counted) = (asks_for_rows explain ≡ true) × (counts ≡ true)
IsPhaseOf explain counts phases.Plan = asks_for_rows explain ≡ false
IsPhaseOf explain counts phases.Analysis = asks_for_rows explain ≡ false
IsPhaseOf explain counts phases.Lines = asks_for_rows explain ≡ false
IsPhaseOf explain counts phases.Nothing = ⊤

-- a statement is over a database: its query is bound to it, its plan is lawful there, its rows go on from there, and so do what comes next
-- and the row that is there
pub record IsOver (database : SpatialDatabase) (statement : Statement) : Type 0 where
  pub bound : IsBound geometry_fits database.definitions statement.bound
  pub lawful : IsLawful database.tables statement.bound statement.plan
  pub rows : IsOf (referenced database.tables statement.bound.references) statement.bound (filters_of statement.bound statement.plan) statement.rows
  pub phase : IsPhaseOf statement.bound.explain statement.bound.counts statement.phase
  pub row : IsThere statement.bound.explain (referenced database.tables statement.bound.references) statement.row

-- a statement is at its beginning: all rows are to come, none is there, and no work is done
pub record HasBegun (database : SpatialDatabase) (statement : Statement) : Type 0 where
  pub records : ByEveryMatrix (λ matrix. records_left matrix database statement ≡ records_of matrix database statement.bound statement.plan)
  pub row : row_record database statement ≡ None
  pub work : work_so_far statement ≡ 0

-- ---- steps

-- what holds after a step: if a row is there, if none is left, and if memory ran out; it is never busy
abbrev pub MatchStatementStep : {E : Type 0} → Result StatementStep E → Type 0 → Type 0 → Type 0 → Type 0
MatchStatementStep (Ok steps.Row) row none refusal = row
MatchStatementStep (Ok steps.Busy) row none refusal = ⊥
MatchStatementStep (Ok steps.End) row none refusal = none
MatchStatementStep (Err e) row none refusal = refusal

-- the row that is there is the first of what was to come, and the others are to come after it
abbrev pub GivesFirst : MatrixOf → SpatialDatabase → Statement → Statement → Type 0
GivesFirst matrix database old new =
    (fields : Record) × (row_record database new ≡ Some fields) × (records_left matrix database old ≡ fields ∷ records_left matrix database new)

-- no row is there, and none is to come
abbrev pub IsAtEnd : MatrixOf → SpatialDatabase → Statement → Type 0
IsAtEnd matrix database statement = (row_record database statement ≡ None) × (records_left matrix database statement ≡ [])

-- what a step gives: the next row; none, if none was to come; and after memory ran out nothing is to come
abbrev pub GivesNextRow : {E : Type 0} → MatrixOf → SpatialDatabase → Statement → Result StatementStep E → Statement → Type 0
GivesNextRow matrix database old result new =
    MatchStatementStep result (GivesFirst matrix database old new) ((records_left matrix database old ≡ []) × IsAtEnd matrix database new) (IsAtEnd matrix database new)

-- the work in all is the same after a step, and at the end it is the work so far
abbrev pub CountsStep : {E : Type 0} → MatrixOf → SpatialDatabase → Statement → Result StatementStep E → Statement → Type 0
CountsStep matrix database old result new =
    MatchStatementStep result (work_in_all matrix database new ≡ work_in_all matrix database old)
    ((work_so_far new ≡ work_in_all matrix database old) × (work_in_all matrix database new ≡ work_in_all matrix database old)) ⊤

-- the work so far once a row is there, by what came next before it: of rows of tables the work up to this row, and else all work
abbrev pub work_at_row : Phase → ℕ → ℕ → ℕ
work_at_row phases.Rows upto all = upto
work_at_row (phases.Count counted) upto all = all
work_at_row phases.Plan upto all = all
work_at_row phases.Analysis upto all = all
work_at_row phases.Lines upto all = all
work_at_row phases.Nothing upto all = all

-- where a step gives a row, the work so far is the work up to it
abbrev pub CountsToRow : {E : Type 0} → MatrixOf → SpatialDatabase → Statement → Result StatementStep E → Statement → Type 0
CountsToRow matrix database old result new =
    MatchStatementStep result
    (work_so_far new ≡ work_at_row old.phase (work_after matrix (stream database old) 1) (work_in_all matrix database old)) ⊤ ⊤

-- what a step promises of the statement before it, of what it returns and of the statement after it
pub record Steps {E : Type 0} (database : SpatialDatabase) (old : Statement) (result : Result StatementStep E) (new : Statement) : Type 0 where
  pub gives : ByEveryMatrix (λ matrix. GivesNextRow matrix database old result new)
  pub counted : ByEveryMatrix (λ matrix. CountsStep matrix database old result new)
  pub to_row : ByEveryMatrix (λ matrix. CountsToRow matrix database old result new)
  pub kept : work_so_far old ≤ work_so_far new
  pub bound : new.bound ≡ old.bound
  pub plan : new.plan ≡ old.plan
  pub over : IsOver database new

-- ---- steps of bounded work

-- a busy step, which made so many looks and gave no row, as it does only where there is a bound: none is there, the same records are to come, each once and in the same order, the work
-- in all is the same, its query and its plan are, and so many looks less are ahead
pub record BusyStep (most : Option ℕ) (database : SpatialDatabase) (old new : Statement) : Type 0 where
  pub come : ByEveryMatrix (λ matrix. records_left matrix database new ≡ records_left matrix database old)
  pub row : row_record database new ≡ None
  pub counted : ByEveryMatrix (λ matrix. work_in_all matrix database new ≡ work_in_all matrix database old)
  pub kept : work_so_far old ≤ work_so_far new
  pub bound : new.bound ≡ old.bound
  pub plan : new.plan ≡ old.plan
  pub over : IsOver database new
  pub nearer : IsNearer most (looks_ahead (stream database new)) (looks_ahead (stream database old))

-- what holds where a step is busy, and where it isn't
abbrev pub WhereBusy : {E : Type 0} → Result StatementStep E → Type 0 → Type 0
WhereBusy (Ok steps.Row) holds = ⊤
WhereBusy (Ok steps.Busy) holds = holds
WhereBusy (Ok steps.End) holds = ⊤
WhereBusy (Err e) holds = ⊤

abbrev pub UnlessBusy : {E : Type 0} → Result StatementStep E → Type 0 → Type 0
UnlessBusy (Ok steps.Row) holds = holds
UnlessBusy (Ok steps.Busy) holds = ⊤
UnlessBusy (Ok steps.End) holds = holds
UnlessBusy (Err e) holds = holds
