use Rattle.edge_boxes.proofs.OverlappingBoxes.{sharing_boxes_overlap}
use Rattle.edge_boxes.proofs.ring_laws.sharing_boxes_overlap.Goals as goal

pub returns : goal.returns
returns c = sharing_boxes_overlap
