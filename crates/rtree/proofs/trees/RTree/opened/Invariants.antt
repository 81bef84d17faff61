use Rattle.std.proofs.Common.{◌≡◌, map}
use Rattle.std.specs.Vec.{vec_items}
use Rattle.rtree.proofs.TreeLemmas.{met_up_to}
use Rattle.rtree.proofs.trees.RTree.opened.Given as goal

-- the nodes below this height were counted
abbrev pub invariant-loop-height : goal.invariant-loop-height
invariant-loop-height l = l.opened ≡ met_up_to l.asked (map vec_items l.self-inside.tree.levels.items) l.height
