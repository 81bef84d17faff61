-- the boxes are those of the edges that are lent
use Rattle.std.proofs.Common.{subst, sym}
use Rattle.edge_boxes.specs.BoxLists.{BoxesOf}
use Rattle.de9im.proofs.points_and_area.is_last_beside.Goals as goal

pub last_near-end-requires-clause-boxes : goal.last_near-end-requires-clause-boxes
last_near-end-requires-clause-boxes c = subst (BoxesOf c.boxes.result.now) (sym c.segments-segments.ensures) c.boxes.ensures
