-- Statements that are open over a kept database: how one is prepared, stepped, begun anew and ended.
use Rattle.std.specs.Prelude.{◌≡◌, ◌⊎◌, ℕ, List, [], ◌∷◌, ◌++◌, if◌then◌else◌, Option, Some, None, Result, Ok, Err, length, is_none, nat_lt, slice_index_or, slice_set}
use Rattle.std.specs.List.{position}
use Rattle.std.specs.Option.{unwrap_or}
use Rattle.std.specs.Str.{IsUtf8}
use Rattle.std.specs.declared.alloc.AllocError.{AllocError}
use Rattle.kept_tables.specs.KeptTables.{KeptTables, lent}
use Rattle.library_calls.specs.Refusals.{first_refused, none_there, ok, out_of_memory, unknown}
use Rattle.sfq_tables.specs.Connections.{Connected}
use Rattle.sfq_tables.specs.TableFaults.{IsRefusedWith, has_failed_query, plain, query_fault_in_numbers}
use Rattle.sfq_tables.specs.declared.table_faults.TablesFault.{TablesFault}
use Rattle.statements.specs.Preparing.{bound_of}
use Rattle.statements.specs.Statements.{BusyStep, HasBegun, Steps, UnlessBusy, WhereBusy}
use Rattle.statements.specs.declared.prepare_faults.PrepareFault.{PrepareFault}
use Rattle.statements.specs.declared.prepare_faults.PrepareFault.TheVariants as faults
use Rattle.statements.specs.declared.prepared.Statement.{Statement}
use Rattle.statements.specs.declared.steps.StatementStep.{StatementStep}
use Rattle.statements.specs.declared.steps.StatementStep.TheVariants as steps
use Rattle.table_model.specs.Plans.{chosen}
use Rattle.table_model.specs.SpatialTables.{SpatialDatabase}

-- the open statement of a number
abbrev pub statement_at : Connected → ℕ → Option Statement
statement_at connected number = slice_index_or connected.statements number None

-- the same with this in the slot of a number
abbrev pub with_slot : ℕ → Option Statement → Connected → Connected
with_slot number slot connected = record { database = connected.database; statements = slice_set connected.statements number slot }

-- ---- preparing

-- the first number that no open statement has
abbrev pub first_free : List (Option Statement) → ℕ
first_free slots = unwrap_or (position is_none slots) (length slots)

-- slots with a statement in that of a number, or in a new one
abbrev pub slots_with : ℕ → Statement → List (Option Statement) → List (Option Statement)
slots_with number statement slots =
    if nat_lt number (length slots) then slice_set slots number (Some statement) else slots ++ Some statement ∷ []

-- the statement of a query's text is open under the first number that no open statement had: bound to the database, with its chosen
-- plan and at its beginning; and all else is as it was
pub record HasPrepared (before : Connected) (text : List ℕ) (number : ℕ) (after : Connected) : Type 0 where
  pub statement : Statement
  pub bound : bound_of before.database text ≡ Ok statement.bound
  pub plan : chosen before.database.tables statement.bound ≡ Some statement.plan
  pub begun : HasBegun (lent before.database) statement
  pub first : number ≡ first_free before.statements
  pub free : statement_at before number ≡ None
  pub there : statement_at after number ≡ Some statement
  pub statements : after.statements ≡ slots_with number statement before.statements
  pub database : after.database ≡ before.database

-- the status where the query names a table that isn't loaded
abbrev pub not_loaded : ℕ
not_loaded = 9

-- Q1 to Q12; of a table that isn't loaded its number alone
abbrev pub prepare_fault_in_numbers : PrepareFault → TablesFault
prepare_fault_in_numbers (faults.Query fault) = query_fault_in_numbers fault
prepare_fault_in_numbers (faults.NotLoaded place) = plain 0 0 place

-- the status of a fault of preparing
abbrev pub status_of_fault : PrepareFault → ℕ
status_of_fault (faults.Query fault) = if has_failed_query fault then out_of_memory else first_refused
status_of_fault (faults.NotLoaded place) = not_loaded

-- the status of preparing where memory is enough
abbrev pub status_of_preparing : {Y : Type 0} → Result Y PrepareFault → ℕ
status_of_preparing (Ok bound) = ok
status_of_preparing (Err fault) = status_of_fault fault

-- the bytes aren't UTF-8; or memory ran out; or the status is that of the query's text
abbrev pub IsStatusOfPreparing : KeptTables → List ℕ → ℕ → Type 0
IsStatusOfPreparing kept text status =
    (¬ (IsUtf8 text) × (status ≡ unknown))
    ⊎ (IsUtf8 text × ((status ≡ out_of_memory) ⊎ (status ≡ status_of_preparing (bound_of kept text))))

-- the text is refused over these tables, and this is its first fault in numbers
abbrev pub IsUnprepared : KeptTables → List ℕ → TablesFault → Type 0
IsUnprepared kept text new = IsRefusedWith prepare_fault_in_numbers (bound_of kept text) new

-- ---- steps

-- the status where as many candidates were looked at as were allowed
abbrev pub busy : ℕ
busy = 8

-- the status of a step: a row is there, it is busy, none is left, or memory ran out
abbrev pub status_of_step : {E : Type 0} → Result StatementStep E → ℕ
status_of_step (Ok steps.Row) = ok
status_of_step (Ok steps.Busy) = busy
status_of_step (Ok steps.End) = none_there
status_of_step (Err e) = out_of_memory

-- the slot has the statement after a step, which is as the status says: so the rows that the steps give are those of its query; where the step
-- is busy, it has made this many looks, and the same rows are to come
pub record HasStepped (most : ℕ) (database : SpatialDatabase) (before : Statement) (status : ℕ) (slot : Option Statement) : Type 0 where
  pub result : Result StatementStep AllocError
  pub statement : Statement
  pub steps : UnlessBusy result (Steps database before result statement)
  pub busy : WhereBusy result (BusyStep (Some most) database before statement)
  pub status_is : status ≡ status_of_step result
  pub there : slot ≡ Some statement

-- the slot has the statement of the same query and plan at its beginning
pub record HasBegunAnew (database : SpatialDatabase) (before : Statement) (slot : Option Statement) : Type 0 where
  pub statement : Statement
  pub begun : HasBegun database statement
  pub bound : statement.bound ≡ before.bound
  pub plan : statement.plan ≡ before.plan
  pub there : slot ≡ Some statement
