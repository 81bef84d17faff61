use Rattle.std.proofs.Common.{sym, ◌∙◌, slice_range}
use Rattle.geometry_model.specs.FirstFaults.{share_point}
use Rattle.edge_boxes.proofs.OtherOrders.{others_kept, ends_kept}
use Rattle.edge_boxes.proofs.boxes.EdgeBoxes.last_sharing.Goals as goal

pub last_sharing_among-requires-clause-boxes : goal.last_sharing_among-requires-clause-boxes
last_sharing_among-requires-clause-boxes c = rw c.as_slice.ensures.value c.requires.boxes.boxes

pub returns-clause-apart : goal.returns-clause-apart
returns-clause-apart c =
    sym (others_kept share_point (slice_range c.args.edges.now c.last_sharing_among.result c.args.end) c.args.others.now
    c.laid-other.result.edges.now c.laid-other.ensures.moved) ∙ c.last_sharing_among.ensures.apart

pub returns-clause-shares : goal.returns-clause-shares
returns-clause-shares c some = ends_kept share_point c.args.edges.now c.args.others.now c.laid-other.result.edges.now
    c.last_sharing_among.result c.laid-other.ensures.moved (c.last_sharing_among.ensures.shares some)
