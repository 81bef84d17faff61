use Rattle.std.proofs.Common.{◌≡◌, ◌≤◌, false, length, drop}
use Rattle.edge_boxes.specs.BoxCells.{IsCellOf}
use Rattle.edge_boxes.specs.EdgeCrossings.{on_any}
use Rattle.edge_boxes.specs.BoxLists.{covered}
use Rattle.edge_boxes.proofs.boxes.is_held_among.Given as goal

-- the point is off the edges from where the boxes before the place end
abbrev pub invariant-loop-place : goal.invariant-loop-place
invariant-loop-place l = record {
  within : l.place ≤ length l.boxes;
  cell : IsCellOf l.cell l.point;
  none : on_any (drop (covered l.boxes l.place) l.edges) l.point ≡ false;
}

abbrev pub decreases-loop-place : goal.decreases-loop-place
decreases-loop-place l = l.place
