use Rattle.de9im.proofs.PointsAndArea.{decided_turned}
use Rattle.de9im.proofs.point_and_area.decide_of_area.Goals as goal

pub returns-in-Some : goal.returns-in-Some
returns-in-Some c = decided_turned c.args.predicate c.args.area.now c.args.point.now c.in-Some.part c.of_area.result
    c.in-Some.ensures c.of_area.ensures
