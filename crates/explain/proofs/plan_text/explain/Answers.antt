-- The lines of a plan, one after another.
use Rattle.std.proofs.Common.{drop}
use Rattle.explain.proofs.PutLemmas.{puts-begun, puts-then}
use Rattle.explain.proofs.TextLemmas.{parts}
use Rattle.explain.proofs.plan_text.explain.Goals as goal

pub returns-in_err-put_number : goal.returns-in_err-put_number
returns-in_err-put_number g c =
    puts-begun c.from_residual.result _ (drop 1 (parts c.args.query.now c.args.plan.now)) c.in_err-put_number.ensures
    c.from_residual.ensures.1

pub returns-in_err-put_plan_accesses : goal.returns-in_err-put_plan_accesses
returns-in_err-put_plan_accesses g c =
    puts-begun c.from_residual-in_err-put_plan_accesses.result _ (drop 2 (parts c.args.query.now c.args.plan.now))
    (puts-then c.in_ok-put_number.ensures c.in_err-put_plan_accesses.ensures) c.from_residual-in_err-put_plan_accesses.ensures.1

pub returns-in_err-put_plan_filters : goal.returns-in_err-put_plan_filters
returns-in_err-put_plan_filters g c =
    puts-begun c.from_residual-in_err-put_plan_filters.result _ (drop 3 (parts c.args.query.now c.args.plan.now))
    (puts-then (puts-then c.in_ok-put_number.ensures c.in_ok-put_plan_accesses.ensures) c.in_err-put_plan_filters.ensures)
    c.from_residual-in_err-put_plan_filters.ensures.1

pub returns-in_err-put_count : goal.returns-in_err-put_count
returns-in_err-put_count g c =
    puts-begun c.from_residual-in_err-put_count.result _ (drop 4 (parts c.args.query.now c.args.plan.now))
    (puts-then (puts-then (puts-then c.in_ok-put_number.ensures c.in_ok-put_plan_accesses.ensures)
    c.in_ok-put_plan_filters.ensures) c.in_err-put_count.ensures)
    c.from_residual-in_err-put_count.ensures.1

pub returns : goal.returns
returns g c =
    puts-then (puts-then (puts-then (puts-then c.in_ok-put_number.ensures c.in_ok-put_plan_accesses.ensures)
    c.in_ok-put_plan_filters.ensures) c.in_ok-put_count.ensures) c.put_limit.ensures
