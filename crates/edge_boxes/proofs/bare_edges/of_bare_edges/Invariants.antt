use Rattle.std.proofs.Common.{take}
use Rattle.geometry_model.specs.Points.{point_at}
use Rattle.edge_boxes.specs.EdgeCrossings.{AreCrossings}
use Rattle.edge_boxes.proofs.bare_edges.of_bare_edges.Given as goal

-- what was found holds of the edges before this one
abbrev pub invariant-loop-edge : goal.invariant-loop-edge
invariant-loop-edge l = AreCrossings l.found (take l.edge-index l.edges) (point_at l.at)
