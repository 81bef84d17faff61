-- The lines are those of the plan's text and of the work of all rows.
use Rattle.std.proofs.Common.{Ok, drop, refl, subst}
use Rattle.std.specs.declared.alloc.AllocError.{AllocError}
use Rattle.executor.specs.Counts.{CountsAll, GivesCount}
use Rattle.executor.specs.PausedRows.{stream_of}
use Rattle.executor.specs.Streams.{Stream, to_come, work_at_end}
use Rattle.statements.proofs.StepLemmas.{analysis_lines, analysis_to_row, analysis_work, steps_from}
use Rattle.statements.proofs.WithinLemmas.{never_busy, unless_busy}
use Rattle.statements.specs.Statements.{BusyStep, Steps}
use Rattle.statements.specs.declared.current_rows.CurrentRow.TheVariants as current
use Rattle.statements.specs.declared.phases.Phase.TheVariants as phases
use Rattle.statements.specs.declared.prepared.Statement.{Statement}
use Rattle.streams.specs.MemorySinks.{memory_bytes}
use Rattle.table_model.specs.Meanings.{referenced}
use Rattle.table_model.specs.Work.{filters_of}
use Rattle.statements.proofs.prepared.Statement.step_analysis.Goals as goal

pub returns-in_ok-self-in-All-clause-steps : goal.returns-in_ok-self-in-All-clause-steps
returns-in_ok-self-in-All-clause-steps g c =
    let database = c.args.database.now in
    let old = c.args.self.now in
    let tables = referenced database.tables old.bound.references in
    let before : Stream = stream_of tables old.bound (filters_of old.bound old.plan) old.rows in
    let found = c.count_rows.new.found in
    let after : Stream = stream_of tables old.bound (filters_of old.bound old.plan) found in
    let gives : CountsAll c.in-All.field-0 before after =
    subst (λ step. GivesCount {E = AllocError} c.args.most before (Ok step) after) c.in-All.is
    c.in_ok-count_rows.ensures.gives in
    let mid : Statement = record {
      bound = old.bound;
      plan = old.plan;
      rows = found;
      phase = phases.Lines;
      text = c.in_ok-self-in-All.field-0;
      given = 0;
      row = current.Absent;
    } in
    unless_busy {E = AllocError} (Ok c.step_line.result) (Steps database old (Ok c.step_line.result) c.step_line.new.self)
    (steps_from database old mid c.step_line.new.self (Ok c.step_line.result)
    (λ matrix m. analysis_lines old.phase database old.bound old.plan (to_come matrix before)
    (work_at_end matrix before) found.progress.work
    (drop old.given (memory_bytes old.text)) (memory_bytes c.in_ok-self-in-All.field-0) c.requires.phase
    c.in_ok-self-in-All.ensures (gives.work matrix m))
    (λ matrix m. analysis_work old.phase old.rows.progress.work (work_at_end matrix before) found.progress.work c.requires.phase
    (gives.work matrix m))
    (λ upto all. refl) (λ upto all. analysis_to_row old.phase upto all c.requires.phase)
    gives.kept refl refl c.step_line.ensures)

pub returns-in_ok-self-in-All-clause-busy : goal.returns-in_ok-self-in-All-clause-busy
returns-in_ok-self-in-All-clause-busy g c =
    let old = c.args.self.now in
    let mid : Statement = record {
      bound = old.bound;
      plan = old.plan;
      rows = c.count_rows.new.found;
      phase = phases.Lines;
      text = c.in_ok-self-in-All.field-0;
      given = 0;
      row = current.Absent;
    } in
    never_busy c.args.database.now mid (Ok c.step_line.result) c.step_line.new.self
    (BusyStep c.args.most c.args.database.now old c.step_line.new.self) c.step_line.ensures
