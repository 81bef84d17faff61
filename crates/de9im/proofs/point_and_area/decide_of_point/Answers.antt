use Rattle.de9im.proofs.PointsAndArea.{decided_by_part}
use Rattle.de9im.proofs.point_and_area.decide_of_point.Goals as goal

pub returns-in-Some : goal.returns-in-Some
returns-in-Some c = decided_by_part c.args.predicate c.args.point.now c.args.area.now c.in-Some.part c.of_point.result
    c.in-Some.ensures c.of_point.ensures
