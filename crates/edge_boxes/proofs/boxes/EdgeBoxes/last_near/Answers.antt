use Rattle.edge_boxes.proofs.boxes.EdgeBoxes.last_near.Goals as goal

pub last_near_among-requires-clause-boxes : goal.last_near_among-requires-clause-boxes
last_near_among-requires-clause-boxes c = rw c.as_slice.ensures.value c.requires.boxes.boxes
