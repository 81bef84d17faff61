use Rattle.std.proofs.Common.{◌+◌, ap, ◌∙◌, sym, drop, sum_by, option_and_then}
use Rattle.planner.specs.Nestings.{left_after}
use Rattle.table_model.specs.Plans as spec
use Rattle.planner.proofs.Counts.{count_or, count_and, left_after_next}
use Rattle.planner.proofs.filter_order.+counting.Goals as goal

pub left_after-returns-in-Or : goal.left_after-returns-in-Or
left_after-returns-in-Or g t c =
    c.left_after_all.ensures
    ∙ ap (λ n. left_after n c.args.predicates) (ap (sum_by spec.predicate_count) c.as_slice.ensures ∙ sym (count_or c.in-Or.parts) ∙ sym (ap spec.predicate_count c.in-Or.is))

pub left_after-returns-in-And : goal.left_after-returns-in-And
left_after-returns-in-And g t c =
    c.left_after_all-in-And.ensures
    ∙ ap (λ n. left_after n c.args.predicates) (ap (sum_by spec.predicate_count) c.as_slice-in-And.ensures ∙ sym (count_and c.in-And.parts) ∙ sym (ap spec.predicate_count c.in-And.is))

pub left_after_all-returns-in_err-left : goal.left_after_all-returns-in_err-left
left_after_all-returns-in_err-left g t c =
    c.from_residual.ensures
    ∙ sym
    (sym c.loop-condition.invariant
    ∙ left_after_next c.args.conditions.now c.loop-condition.condition-index c.loop-condition.left c.condition-item.result c.loop-condition-test.true c.condition-item.is
    ∙ ap (option_and_then (left_after (sum_by spec.predicate_count (drop (c.loop-condition.condition-index + 1) c.args.conditions.now)))) (sym c.left_after.ensures ∙ c.in_err-left.was))

pub left_after_all-loop-condition-preserved : goal.left_after_all-loop-condition-preserved
left_after_all-loop-condition-preserved g t c =
    sym
    (left_after_next c.args.conditions.now c.loop-condition.condition-index c.loop-condition.left c.condition-item.result c.loop-condition-test.true c.condition-item.is
    ∙ ap (option_and_then (left_after (sum_by spec.predicate_count (drop (c.loop-condition.condition-index + 1) c.args.conditions.now)))) (sym c.left_after.ensures ∙ c.in_ok-left.was))
    ∙ c.loop-condition.invariant
