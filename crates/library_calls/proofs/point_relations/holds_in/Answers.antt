use Rattle.library_calls.proofs.PointFacts.{held_inside, held_not_outside, held_on_boundary}
use Rattle.library_calls.proofs.point_relations.holds_in.Goals as goal

pub returns-in-Intersects-clause-held : goal.returns-in-Intersects-clause-held
returns-in-Intersects-clause-held c =
    held_not_outside c.args.relation c.args.part c.ne.result c.in-Intersects.is c.ne.ensures

pub returns-in-Touches-clause-held : goal.returns-in-Touches-clause-held
returns-in-Touches-clause-held c = held_on_boundary c.args.relation c.args.part c.eq.result c.in-Touches.is c.eq.ensures

pub returns-in-Contains-clause-held : goal.returns-in-Contains-clause-held
returns-in-Contains-clause-held c =
    held_inside c.args.relation c.args.part c.eq-in-Contains.result c.in-Contains.is c.eq-in-Contains.ensures
