use Rattle.std.proofs.Common.{rules}
use Rattle.rtree.proofs.packed_trees.PackedTree.search.Goals as goal

pub returns-else-is_err-clause-exact : goal.returns-else-is_err-clause-exact
returns-else-is_err-clause-exact c = search rules
