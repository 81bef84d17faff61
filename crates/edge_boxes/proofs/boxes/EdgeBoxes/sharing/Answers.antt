use Rattle.edge_boxes.proofs.boxes.EdgeBoxes.sharing.Goals as goal

pub push_asked-pushed-requires-clause-boxes : goal.push_asked-pushed-requires-clause-boxes
push_asked-pushed-requires-clause-boxes c = rw c.as_slice.ensures.value c.requires.boxes
