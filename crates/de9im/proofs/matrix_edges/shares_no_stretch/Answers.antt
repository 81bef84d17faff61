use Rattle.std.proofs.Common.{sym, subst}
use Rattle.std.proofs.lemmas.Bool.{not-true}
use Rattle.edge_boxes.specs.BoxLists.{BoxesOf}
use Rattle.matrix_laws.specs.Gaps.{SharesNoStretch}
use Rattle.de9im.proofs.matrix_edges.shares_no_stretch.Goals as goal

pub may_share_stretch-requires : goal.may_share_stretch-requires
may_share_stretch-requires c = subst (BoxesOf c.boxes.result.now) (sym c.segments.ensures) c.boxes.ensures

pub returns : goal.returns
returns c apart = subst (SharesNoStretch c.args.edge.now) c.segments.ensures (c.may_share_stretch.ensures.none (not-true c.may_share_stretch.result apart))
