-- All rows are to come, and no work is done.
use Rattle.std.proofs.Common.{◌≡◌, ◌+◌, ◌∙◌, [], ap, arith, drop, refl}
use Rattle.executor.specs.Streams.{to_come, work_at_end}
use Rattle.statements.proofs.StepLemmas.{same_records}
use Rattle.statements.specs.StatementRows.{first_phase}
use Rattle.statements.specs.Statements.{stream}
use Rattle.statements.specs.declared.current_rows.CurrentRow.TheVariants as current
use Rattle.statements.specs.declared.prepared.Statement.{Statement}
use Rattle.streams.specs.MemorySinks.{memory_bytes}
use Rattle.table_model.specs.Arguments.{denoted}
use Rattle.table_model.specs.Places.{meant}
use Rattle.table_model.specs.RunOutcomes.{kept_count}
use Rattle.table_model.specs.Truths.{truth}
use Rattle.table_model.specs.Work.{work}
use Rattle.statements.proofs.prepared.Statement.planned.Goals as goal

pub returns-clause-begun : goal.returns-clause-begun
returns-clause-begun g c =
    let database = c.args.database.now in
    let query = c.args.bound in
    let plan = c.in_ok-plan.plan in
    let new : Statement = record {
      bound = query;
      plan = plan;
      rows = c.begun-rows.result;
      phase = c.first_phase-phase.result;
      text = c.new-2.result;
      given = 0;
      row = current.Absent;
    } in
    record {
      records = λ matrix m.
          let number = work matrix denoted database.tables query plan in
          let none : 0 + number ≡ number = omega arith in
          same_records c.first_phase-phase.result (first_phase query.explain query.counts) database query plan
          (to_come matrix (stream database new)) (meant (truth matrix denoted) database.tables query)
          (work_at_end matrix (stream database new)) (kept_count number) (drop 0 (memory_bytes c.new-2.result)) []
          c.first_phase-phase.ensures (c.begun-rows.ensures.meant matrix m)
          (c.begun-rows.ensures.at_end matrix m ∙ ap (λ n. kept_count (n + number)) c.new.ensures ∙ ap kept_count none)
          (ap (drop 0) c.new-2.ensures.empty);
      row = refl;
      work = c.begun-rows.ensures.work ∙ c.new.ensures;
    }
