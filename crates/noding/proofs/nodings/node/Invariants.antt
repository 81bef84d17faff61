use Rattle.std.proofs.Common.{map}
use Rattle.noding.specs.Nodings.{piece_of, HoldsNodes, HoldsPieces}
use Rattle.noding.proofs.nodings.node.Given as goal

-- the segments before this one
abbrev pub invariant-loop-breaks : goal.invariant-loop-breaks
invariant-loop-breaks l = record {
  nodes : HoldsNodes l.order.items l.positions.items l.breaks-index l.nodes.items;
  pieces : HoldsPieces l.order.items l.positions.items l.breaks-index (map piece_of l.pieces.items);
}
