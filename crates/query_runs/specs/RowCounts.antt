-- How many rows the tables of a run have.
use Rattle.std.specs.Prelude.{◌≡◌, ◌⊎◌, ℕ, IfErr, List, Ok, Option, Result, length, map}
use Rattle.failures.specs.declared.run_fault.Fault.{Fault}
use Rattle.feature_table.specs.Tables.{EachRecordsOf}
use Rattle.query_runs.specs.Runs.{RunsOver, ShowsRun}
use Rattle.query_runs.specs.declared.row_counts.RowCounts.{RowCounts}
use Rattle.query_runs.specs.declared.row_counts.RowCounts.TheVariants as counts
use Rattle.table_model.specs.Databases.{load_tables}
use Rattle.table_model.specs.GeometryColumns.{read_geometry}
use Rattle.table_model.specs.Loading.{Record}
use Rattle.table_model.specs.SpatialTables.{SpatialSchema, SpatialTable}

-- these are the numbers of the rows of the tables
abbrev pub AreCounts : List SpatialTable → RowCounts → Type 0
AreCounts tables (counts.Counted rows) = rows.items ≡ map length tables
AreCounts tables counts.Asked = ⊥
AreCounts tables counts.Unasked = ⊥

-- what counting the rows of the tables leaves: nothing new where nobody asks for it, or memory ran out, and else their numbers
abbrev pub CountsTables : List SpatialTable → RowCounts → RowCounts → Type 0
CountsTables tables counts.Unasked new = new ≡ counts.Unasked
CountsTables tables counts.Asked new = (new ≡ counts.Asked) ⊎ AreCounts tables new
CountsTables tables (counts.Counted rows) new = (new ≡ counts.Counted rows) ⊎ AreCounts tables new

-- the same of the tables that the records load as
abbrev pub CountsLoaded : SpatialSchema → List (List Record) → RowCounts → RowCounts → Type 0
CountsLoaded definitions records old new =
    (tables : List SpatialTable) × (load_tables read_geometry definitions records ≡ Ok tables) × CountsTables tables old new

-- what a run leaves of the numbers of rows, however it ends: nothing new, or what counting the rows of the tables that the records load as
-- leaves
abbrev pub LeavesCounts : SpatialSchema → List (List Record) → RowCounts → RowCounts → Type 0
LeavesCounts definitions records old new = (new ≡ old) ⊎ CountsLoaded definitions records old new

-- there are records of the readers over which the run is what it promises, and whose rows are those that it counts; where one of them has a
-- fault, it and its header were read last
pub record RunsAndCounts (result : Result ℕ Fault) (definitions : SpatialSchema) (readers : List (Option (List ℕ))) (text : List ℕ) (old new : Option (List ℕ))
    (before after : RowCounts) (header last : Record) : Type 0 where
  pub records : List (List Record)
  pub are_of : EachRecordsOf readers records
  pub runs : RunsOver result definitions records text old new
  pub counts : LeavesCounts definitions records before after
  pub shows : IfErr result (ShowsRun records header last)
