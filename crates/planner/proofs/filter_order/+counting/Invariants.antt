use Rattle.std.proofs.Common.{◌≡◌, drop, sum_by}
use Rattle.planner.specs.Nestings.{left_after}
use Rattle.table_model.specs.Plans as spec
use Rattle.planner.proofs.filter_order.+counting.Given as goal

abbrev pub invariant-left_after_all-loop-condition : goal.invariant-left_after_all-loop-condition
invariant-left_after_all-loop-condition g l =
    left_after (sum_by spec.predicate_count (drop l.condition-index l.conditions)) l.left
    ≡ left_after (sum_by spec.predicate_count l.conditions) l.predicates
