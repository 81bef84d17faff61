-- Each place comes after those of the conjuncts before it.
use Rattle.std.proofs.Common.{◌==◌}
use Rattle.table_model.specs.Plans as spec
use Rattle.planner.proofs.Counts.{one_more_place}
use Rattle.planner.proofs.filter_order.push_places.Goals as goal

pub loop-place-preserved : goal.loop-place-preserved
loop-place-preserved g c =
    one_more_place (λ x. spec.predicate_count x == c.args.count) c.args.conjuncts.now c.loop-place.place c.index-conjuncts-place.result _ _ _
    c.loop-place-test.true c.index-conjuncts-place.is c.in_ok-push_place.ensures c.loop-place.invariant
