use Rattle.edge_boxes.proofs.OtherOrders.{crossings_kept}
use Rattle.edge_boxes.proofs.boxes.EdgeBoxes.crossings.Goals as goal

pub returns-in_default : goal.returns-in_default
returns-in_default c = crossings_kept c.crossings_among.result c.args.edges.now c.laid-laid.result.edges.now c.args.point.now
    c.laid-laid.ensures.moved c.crossings_among.ensures
