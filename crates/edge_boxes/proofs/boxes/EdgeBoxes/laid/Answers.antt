use Rattle.edge_boxes.proofs.boxes.EdgeBoxes.laid.Goals as goal

pub laid-requires-clause-boxes : goal.laid-requires-clause-boxes
laid-requires-clause-boxes c = rw c.as_slice.ensures.value c.requires.boxes
