use Rattle.std.proofs.Common.{rules}
use Rattle.rtree.proofs.GroupLemmas.{level_more}
use Rattle.rtree.proofs.packing.level_over.Goals as goal

pub loop-node-preserved : goal.loop-node-preserved
loop-node-preserved c = level_more c.args.level.now c.loop-node.over.items c.push.new.self.items c.loop-node.node c.around.result c.min-end.result c.min-end.ensures c.in_ok-push.ensures.items c.around.ensures c.loop-node.invariant

pub returns : goal.returns
returns c = search rules
