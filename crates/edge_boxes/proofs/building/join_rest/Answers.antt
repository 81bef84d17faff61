use Rattle.std.proofs.Common.{rules}
use Rattle.edge_boxes.proofs.Growing.{keeps_on}
use Rattle.edge_boxes.proofs.building.join_rest.Goals as goal

pub loop-left-preserved : goal.loop-left-preserved
loop-left-preserved c = record {
  keeps = keeps_on c.args.boxes.now.items c.loop-left.boxes.items c.join_last.new.boxes.items c.loop-left.invariant.keeps c.in_ok-join_last.ensures;
  lower = search rules;
}
