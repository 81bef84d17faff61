use Rattle.std.proofs.Common.{◌++◌, ◌==◌, ap, ◌∙◌, sym}
use Rattle.table_model.specs.Plans as spec
use Rattle.planner.proofs.Counts.{one_more_count}
use Rattle.planner.proofs.filter_order.filters.Goals as goal

pub loop-count-preserved : goal.loop-count-preserved
loop-count-preserved g c =
    c.in_ok-push_places.ensures
    ∙ ap (λ t. t ++ spec.places_where (λ x. spec.predicate_count x == c.loop-count.count) c.args.conjuncts.now) c.loop-count.invariant
    ∙ sym (one_more_count (λ n. spec.places_where (λ x. spec.predicate_count x == n) c.args.conjuncts.now) c.loop-count.count)
