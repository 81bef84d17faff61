use Rattle.executor.specs.PausedRows.{IsOf}
use Rattle.table_model.specs.Meanings.{referenced}
use Rattle.table_model.specs.Work.{filters_of}
use Rattle.query_tests.proofs.row_tests.paused_after_each.Given as goal

-- the rows that are paused are those of the plan
abbrev pub invariant-loop : goal.invariant-loop
invariant-loop l = IsOf (referenced l.database.tables l.bound.references) l.bound (filters_of l.bound l.plan) l.paused
