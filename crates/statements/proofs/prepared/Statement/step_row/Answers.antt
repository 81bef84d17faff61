-- The row is the first of what was to come of the stream.
use Rattle.std.proofs.Common.{◌∙◌, Ok, Some, drop, refl, subst, sym}
use Rattle.std.specs.declared.alloc.AllocError.{AllocError}
use Rattle.executor.specs.Iteration.{GivesRow}
use Rattle.executor.specs.Pairs.{choice_of}
use Rattle.executor.specs.PausedRows.{stream_of}
use Rattle.executor.specs.Steps.{GivesStep}
use Rattle.executor.specs.Streams.{Stream, to_come, work_after, work_at_end}
use Rattle.executor.specs.declared.steps.Step.TheVariants as found
use Rattle.statements.proofs.StepLemmas.{rows_first, rows_to_row, rows_work}
use Rattle.statements.specs.StatementRows.{choice_record}
use Rattle.statements.specs.Statements.{IsPhaseOf, work_in_all}
use Rattle.streams.specs.MemorySinks.{memory_bytes}
use Rattle.table_model.specs.Meanings.{referenced}
use Rattle.table_model.specs.Work.{filters_of}
use Rattle.statements.proofs.prepared.Statement.step_row.Goals as goal

pub returns-in-Row-clause-steps : goal.returns-in-Row-clause-steps
returns-in-Row-clause-steps g c =
    let database = c.args.database.now in
    let old = c.args.self.now in
    let pair = c.in-Row.pair in
    let tables = referenced database.tables old.bound.references in
    let before : Stream = stream_of tables old.bound (filters_of old.bound old.plan) old.rows in
    let after : Stream = stream_of tables old.bound (filters_of old.bound old.plan) c.next_row.new.found in
    let gives : GivesRow {E = AllocError} before (Some (Ok pair)) after =
    subst (λ step. GivesStep {E = AllocError} c.args.most before (Ok step) after) c.in-Row.is c.in_ok-pair.ensures.gives in
    let text = drop old.given (memory_bytes old.text) in
    record {
      gives = λ matrix m. (
        choice_record database old.bound (choice_of pair),
        refl,
        rows_first old.phase database old.bound old.plan pair (to_come matrix before) (to_come matrix after)
            (work_at_end matrix before) (work_at_end matrix after) text c.requires.phase (gives.gives matrix m),
      );
      counted = λ matrix m.
          rows_work old.phase c.next_row.new.found.progress.work (work_at_end matrix after) c.requires.phase
          ∙ (gives.counted matrix m).at_end
          ∙ sym (rows_work old.phase old.rows.progress.work (work_at_end matrix before) c.requires.phase);
      to_row = λ matrix m.
          (gives.counted matrix m).now
          ∙ rows_to_row old.phase (work_after matrix before 1) (work_in_all matrix database old) c.requires.phase;
      kept = gives.kept;
      bound = refl;
      plan = refl;
      over = record {
        bound = c.requires.over.bound;
        lawful = c.requires.over.lawful;
        rows = c.next_row.ensures.of;
        phase = c.requires.over.phase;
        row = (gives.places, subst (λ p. IsPhaseOf old.bound.explain old.bound.counts p) c.requires.phase c.requires.over.phase);
      };
    }

pub returns-in-Row-clause-over : goal.returns-in-Row-clause-over
returns-in-Row-clause-over g c = (returns-in-Row-clause-steps g c).over
