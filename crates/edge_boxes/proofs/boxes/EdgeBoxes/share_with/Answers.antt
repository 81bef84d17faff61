use Rattle.std.proofs.Common.{◌∙◌}
use Rattle.geometry_model.specs.FirstFaults.{share_point}
use Rattle.edge_boxes.proofs.OtherOrders.{both_kept}
use Rattle.edge_boxes.proofs.boxes.EdgeBoxes.share_with.Goals as goal

pub returns : goal.returns
returns c = c.share_among.ensures
    ∙ both_kept share_point c.args.edges.now c.laid-laid.result.edges.now c.args.others.now c.laid-other.result.edges.now
    c.laid-laid.ensures.moved c.laid-other.ensures.moved
