use Rattle.std.proofs.Common.{take}
use Rattle.edge_boxes.specs.EdgeCrossings.{AreCrossings}
use Rattle.edge_boxes.proofs.point_crossings.of_edges_around.Given as goal

-- what was found holds of the edges before this one
abbrev pub invariant-loop-edge : goal.invariant-loop-edge
invariant-loop-edge l = AreCrossings l.found (take l.edge-index l.edges) l.point
