use Rattle.std.proofs.Common.{◌≡◌, length}
use Rattle.edge_boxes.specs.BoxLists.{AreBoxes}
use Rattle.edge_boxes.proofs.building.take_strips.Given as goal

-- the boxes are those of the edges, and as many as at first
abbrev pub invariant-loop-place : goal.invariant-loop-place
invariant-loop-place l = record {
  boxes : AreBoxes l.boxes.items l.edges;
  count : length l.boxes.items ≡ length l.fn.boxes.items;
}
