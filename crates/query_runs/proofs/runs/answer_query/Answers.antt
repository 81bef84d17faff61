-- Each exit of the query's steps.
use Rattle.std.proofs.Common.{ap, Ok, sym, ℕ, ◌∙◌}
use Rattle.failures.specs.Faults.{of_put}
use Rattle.query_runs.specs.Runs.{IsOfTables, none_reached, planned_text}
use Rattle.failures.specs.declared.run_fault.Fault.TheVariants as faults
use Rattle.query_runs.proofs.RunLemmas.{at-fault, bound-outcome, bound-work, memory-none, no-count, of-fault, put-of-tables, put-refused, query-of-tables, unbound-runs}
use Rattle.query_runs.proofs.runs.answer_query.Goals as goal

pub returns-in_err-bound-clause-answer : goal.returns-in_err-bound-clause-answer
returns-in_err-bound-clause-answer g c = λ matrix gives.
    unbound-runs c.from_residual.result c.in_err-bound.field-0.0 matrix c.args.query.now c.args.database.now (g.S.Sink.taken c.args.sink.now)
    c.from_residual.ensures.1 c.in_err-bound.ensures.answer

pub returns-in_err-bound-clause-work : goal.returns-in_err-bound-clause-work
returns-in_err-bound-clause-work g c = λ matrix gives. no-count c.from_residual.result _ _ c.from_residual.ensures.1

pub returns-in_err-bound-clause-table : goal.returns-in_err-bound-clause-table
returns-in_err-bound-clause-table g c = λ count. of-fault c.from_residual.result _ (IsOfTables count) c.from_residual.ensures.1 (query-of-tables count c.in_err-bound.field-0.0)

pub returns-in_err-plan-clause-answer : goal.returns-in_err-plan-clause-answer
returns-in_err-plan-clause-answer g c = λ matrix gives.
    at-fault c.from_residual-in_err-plan.result faults.Memory _ none_reached _ _ c.from_residual-in_err-plan.ensures.1
    (memory-none ℕ _ none_reached _)

pub returns-in_err-plan-clause-work : goal.returns-in_err-plan-clause-work
returns-in_err-plan-clause-work g c = λ matrix gives. no-count c.from_residual-in_err-plan.result _ _ c.from_residual-in_err-plan.ensures.1

pub returns-in_err-plan-clause-table : goal.returns-in_err-plan-clause-table
returns-in_err-plan-clause-table g c = λ count. of-fault c.from_residual-in_err-plan.result faults.Memory (IsOfTables count) c.from_residual-in_err-plan.ensures.1 tt

pub returns-in_err-work-clause-answer : goal.returns-in_err-work-clause-answer
returns-in_err-work-clause-answer g c = λ matrix gives.
    let database = c.args.database.now in
    let bound = c.in_ok-bound.bound in
    at-fault c.from_residual-in_err-work.result (of_put c.in_err-work.field-0.0) _ none_reached _ _ c.from_residual-in_err-work.ensures.1
    (put-refused ℕ c.in_err-work.field-0.0 _ none_reached (planned_text bound.explain matrix database bound c.in_ok-plan.plan) _ _
    (bound-outcome matrix c.args.query.now database bound c.in_ok-plan.plan c.in_ok-bound.ensures.answer c.in_ok-plan.ensures.chosen)
    (c.in_err-work.ensures.text matrix gives).front)

pub returns-in_err-work-clause-work : goal.returns-in_err-work-clause-work
returns-in_err-work-clause-work g c = λ matrix gives. no-count c.from_residual-in_err-work.result _ _ c.from_residual-in_err-work.ensures.1

pub returns-in_err-work-clause-table : goal.returns-in_err-work-clause-table
returns-in_err-work-clause-table g c = λ count.
    of-fault c.from_residual-in_err-work.result _ (IsOfTables count) c.from_residual-in_err-work.ensures.1 (put-of-tables count c.in_err-work.field-0.0)

pub returns-clause-answer : goal.returns-clause-answer
returns-clause-answer g c = λ matrix gives.
    let database = c.args.database.now in
    let bound = c.in_ok-bound.bound in (
      planned_text bound.explain matrix database bound c.in_ok-plan.plan,
      bound-outcome matrix c.args.query.now database bound c.in_ok-plan.plan c.in_ok-bound.ensures.answer c.in_ok-plan.ensures.chosen,
      (c.in_ok-work.ensures.text matrix gives).whole,
    )

pub returns-clause-work : goal.returns-clause-work
returns-clause-work g c = λ matrix gives.
    bound-work matrix c.args.query.now c.args.database.now c.in_ok-bound.bound c.in_ok-plan.plan c.in_ok-bound.ensures.answer c.in_ok-plan.ensures.chosen
    ∙ ap Ok (sym (c.in_ok-work.ensures.work matrix gives))
