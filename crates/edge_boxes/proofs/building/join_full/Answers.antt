use Rattle.edge_boxes.proofs.Growing.{keeps_on}
use Rattle.edge_boxes.proofs.building.join_full.Goals as goal

pub loop-left-preserved : goal.loop-left-preserved
loop-left-preserved c = keeps_on c.args.boxes.now.items c.loop-left.boxes.items c.join_last.new.boxes.items c.loop-left.invariant c.in_ok-join_last.ensures
