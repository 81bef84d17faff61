use Rattle.std.proofs.Common.{ap}
use Rattle.geometry_model.specs.Locations.{ends}
use Rattle.validity.proofs.OddEndFacts.{one_more_joined}
use Rattle.validity.proofs.odd_ends.ends_of.Goals as goal

pub loop-line-preserved : goal.loop-line-preserved
loop-line-preserved c =
    one_more_joined ends c.args.lines.now c.loop-line.line-index c.line-item.result _ _ _ c.loop-line-test.true c.line-item.is c.loop-line.invariant (ap ends c.positions.ensures.positions) c.in_ok-push_ends.ensures
