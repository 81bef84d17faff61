use Rattle.std.proofs.Common.{[], ◌∷◌}
use Rattle.edge_boxes.proofs.point_crossings.of_edge.Goals as goal

pub returns-in-Some : goal.returns-in-Some
returns-in-Some c = (rw c.in-Some.is at c.said.ensures) c.args.point.now (c.args.edge.now ∷ []) c.requires c.of.ensures
