use Rattle.std.proofs.Common.{◌≤◌, length, drop}
use Rattle.edge_boxes.specs.BoxCells.{IsCellOf}
use Rattle.edge_boxes.specs.EdgeCrossings.{AreCrossings}
use Rattle.edge_boxes.specs.BoxLists.{covered}
use Rattle.edge_boxes.proofs.boxes.crossings_among.Given as goal

-- what was found holds of the edges from where the boxes before the place end
abbrev pub invariant-loop-place : goal.invariant-loop-place
invariant-loop-place l = record {
  within : l.place ≤ length l.boxes;
  cell : IsCellOf l.cell l.point;
  found : AreCrossings l.found (drop (covered l.boxes l.place) l.edges) l.point;
}

abbrev pub decreases-loop-place : goal.decreases-loop-place
decreases-loop-place l = l.place
