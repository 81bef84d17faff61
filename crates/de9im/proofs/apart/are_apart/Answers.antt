use Rattle.std.proofs.Common.{subst, sym}
use Rattle.edge_boxes.specs.BoxLists.{BoxesOf}
use Rattle.de9im.proofs.apart.are_apart.Goals as goal

pub share_with-shares-requires-clause-boxes : goal.share_with-shares-requires-clause-boxes
share_with-shares-requires-clause-boxes c = subst (BoxesOf c.boxes.result.now) (sym c.segments.ensures) c.boxes.ensures

pub share_with-shares-requires-clause-others : goal.share_with-shares-requires-clause-others
share_with-shares-requires-clause-others c = subst (BoxesOf c.boxes-2.result.now) (sym c.segments-2.ensures) c.boxes-2.ensures
