-- The number is that of all rows that were to come.
use Rattle.std.proofs.Common.{◌≢◌, ◌∙◌, ◌∷◌, ◌+◌, [], Ok, Some, ap, drop, refl, rules, subst, sym}
use Rattle.std.specs.Prelude.{decimal}
use Rattle.std.specs.declared.alloc.AllocError.{AllocError}
use Rattle.executor.specs.Counts.{CountsAll, GivesCount}
use Rattle.executor.specs.PausedRows.{stream_of}
use Rattle.executor.specs.Streams.{Stream, to_come, work_after, work_at_end}
use Rattle.statements.proofs.StepLemmas.{count_first, count_to_row, count_work}
use Rattle.statements.proofs.WithinLemmas.{all_counted}
use Rattle.statements.specs.Statements.{IsPhaseOf, work_in_all}
use Rattle.streams.specs.MemorySinks.{memory_bytes}
use Rattle.table_model.specs.Meanings.{referenced}
use Rattle.table_model.specs.Work.{filters_of}
use Rattle.statements.proofs.prepared.Statement.step_count.Goals as goal

pub returns-else-eq-clause-steps : goal.returns-else-eq-clause-steps
returns-else-eq-clause-steps g c =
    let database = c.args.database.now in
    let old = c.args.self.now in
    let tables = referenced database.tables old.bound.references in
    let before : Stream = stream_of tables old.bound (filters_of old.bound old.plan) old.rows in
    let after : Stream = stream_of tables old.bound (filters_of old.bound old.plan) c.count_rows.new.found in
    let gives : CountsAll c.in-All.others before after =
    subst (λ step. GivesCount {E = AllocError} c.args.most before (Ok step) after) c.in-All.is
    c.in_ok-others.ensures.gives in
    let phase = subst (λ p. IsPhaseOf old.bound.explain old.bound.counts p) c.requires.phase c.requires.over.phase in
    let other : old.bound.limit ≢ Some 0 = search rules in
    let count = c.in_ok-count-in-All.count in
    record {
      gives = λ matrix m. (
        decimal count ∷ [],
        refl,
        count_first old.phase database old.bound old.plan (to_come matrix before) c.args.counted count
            (work_at_end matrix before) (drop old.given (memory_bytes old.text)) c.requires.phase other
            (c.in_ok-count-in-All.ensures ∙ ap (λ n. n + c.args.counted) (gives.come (all_counted before phase.1) matrix m)),
      );
      counted = λ matrix m.
          gives.work matrix m
          ∙ sym (count_work old.phase c.args.counted old.rows.progress.work (work_at_end matrix before) c.requires.phase);
      to_row = λ matrix m.
          gives.work matrix m
          ∙ sym (count_work old.phase c.args.counted old.rows.progress.work (work_at_end matrix before) c.requires.phase)
          ∙ count_to_row old.phase c.args.counted (work_after matrix before 1) (work_in_all matrix database old) c.requires.phase;
      kept = gives.kept;
      bound = refl;
      plan = refl;
      over = record {
        bound = c.requires.over.bound;
        lawful = c.requires.over.lawful;
        rows = c.count_rows.ensures.of;
        phase = tt;
        row = phase.0;
      };
    }
