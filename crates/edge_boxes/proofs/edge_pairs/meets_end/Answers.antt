use Rattle.std.proofs.Common.{ap, ◌∙◌}
use Rattle.geometry_model.specs.Points.{Position, point_at}
use Rattle.geometry_model.specs.Sides.{on}
use Rattle.orient.proofs.Tests.{either_holds, second_decides}
use Rattle.edge_boxes.proofs.edge_pairs.meets_end.Goals as goal

pub returns-then-position_on : goal.returns-then-position_on
returns-then-position_on c = either_holds _ _ _ (c.position_on.ensures ∙ ap (λ (a : Position). on c.args.e.now (point_at a)) c.start.ensures) c.if-position_on.true

pub returns-else-position_on : goal.returns-else-position_on
returns-else-position_on c = second_decides _ _ _ _ (c.position_on.ensures ∙ ap (λ (a : Position). on c.args.e.now (point_at a)) c.start.ensures) c.if-position_on.false
    (c.position_on-else-position_on.ensures ∙ ap (λ (a : Position). on c.args.e.now (point_at a)) c.end.ensures.value)
