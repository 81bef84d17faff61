use Rattle.edge_boxes.proofs.OtherOrders.{copy_is}
use Rattle.edge_boxes.proofs.parts.Parts.laid.Goals as goal

pub returns-in-Some-clause-boxes : goal.returns-in-Some-clause-boxes
returns-in-Some-clause-boxes c =
    let all = rw c.in-Several.is at c.requires.reordered in
    let kept = copy_is c.deref.result.now.reordered c.in-Some.copy c.args.edges.now c.in-Some.is
    (rw c.deref.ensures all) in
    rw c.as_slice.ensures.value (rw c.as_slice-in-Some.ensures.value kept.boxes)
