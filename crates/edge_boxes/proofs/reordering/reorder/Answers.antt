use Rattle.std.proofs.Common.{subst}
use Rattle.edge_boxes.specs.BoxLists.{AreBoxes}
use Rattle.edge_boxes.proofs.reordering.reorder.Goals as goal

pub returns : goal.returns
returns c = record {
  moved = c.in_ok-edges.ensures;
  boxes = subst (AreBoxes c.in_ok-boxes.boxes.items) c.as_slice.ensures.value c.in_ok-boxes.ensures;
}
