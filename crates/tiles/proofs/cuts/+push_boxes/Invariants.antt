use Rattle.tiles.proofs.cuts.+push_boxes.Given as goal

abbrev pub decreases-push_boxes : goal.decreases-push_boxes
decreases-push_boxes l = l.cuts
