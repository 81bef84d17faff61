use Rattle.std.proofs.Common.{subst, sym}
use Rattle.edge_boxes.specs.BoxLists.{BoxesOf}
use Rattle.side_labels.proofs.location.locate_in_lines.Goals as goal

pub holds-requires : goal.holds-requires
holds-requires c = subst (BoxesOf c.boxes.result.now) (sym c.segments.ensures) c.boxes.ensures
