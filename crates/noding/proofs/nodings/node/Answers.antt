use Rattle.std.proofs.Common.{◌∙◌, ◌-◌, ◌^◌, ap, sym, subst, All, map, min, ◌++◌}
use Rattle.geometry_model.specs.Points.{point_at}
use Rattle.geometry_model.specs.CutPoints.{IsCut}
use Rattle.geometry_model.specs.Pieces.{IsPiece, stretches}
use Rattle.noding.specs.Nodings.{piece_of, IsNodeTriple, HasNodeTriples, ListsCuts, ListsPieces, AscendingPoints, AscendingPieces}
use Rattle.noding.specs.NodeRanges.{overlapping_pairs}
use Rattle.noding.proofs.Counting.{pairs_in_order}
use Rattle.noding.proofs.NodeSteps.{first_nodes, first_pieces, nodes_more, pieces_more, nodes_are_points, pieces_have_points, nodes_are_cuts, has_cuts, nodes_are_triples, pieces_are_pieces, has_pieces, pieces_have_triples, Row, row, all_gone, same_given, cuts_of_same, lists_cuts_of_same, pieces_of_same, lists_pieces_of_same}
use Rattle.noding.proofs.Exact.{nodes_are_cut_points, pieces_are_listed}
use Rattle.noding.proofs.nodings.node.Goals as goal

pub loop-breaks-init : goal.loop-breaks-init
loop-breaks-init c = record {
  nodes = first_nodes c.in_ok-order.order.items c.in_ok-positions.positions.items c.in_ok-nodes.nodes.items (c.in_ok-nodes.ensures ∙ ap (map point_at) c.as_slice-3.ensures.value);
  pieces = first_pieces c.in_ok-order.order.items c.in_ok-positions.positions.items (map piece_of c.new-pieces.result.items) (ap (map piece_of) c.new-pieces.ensures.items);
}

pub loop-breaks-preserved : goal.loop-breaks-preserved
loop-breaks-preserved c =
    let r : Row c.in_ok-order.order.items c.in_ok-positions.positions.items c.loop-breaks.breaks-index c.breaks-item.result = row c.in_ok-order.order.items c.as_slice.result.now c.in_ok-positions.positions.items c.as_slice-2.result.now c.in_ok-swept.swept.breaks.items c.as_slice-breaks-items.result.now c.breaks-item.result c.loop-breaks.breaks-index c.as_slice.ensures.value c.as_slice-2.ensures.value c.as_slice-breaks-items.ensures.value c.in_ok-swept.ensures.breaks c.loop-breaks-test.true c.breaks-item.is in
    record {
      nodes = nodes_more c.in_ok-order.order.items c.in_ok-positions.positions.items c.loop-breaks.breaks-index r.edge c.breaks-item.result c.loop-breaks.nodes.items c.push_points.new.nodes.items
          r.within r.is r.breaks (c.in_ok-push_points.ensures ∙ ap (λ ps. c.loop-breaks.nodes.items ++ ps) c.as_slice-in-loop-breaks.ensures) c.loop-breaks.invariant.nodes;
      pieces = pieces_more c.in_ok-order.order.items c.in_ok-positions.positions.items c.loop-breaks.breaks-index r.edge c.breaks-item.result (map piece_of c.loop-breaks.pieces.items) (map piece_of c.push_stretches.new.pieces.items)
          r.within r.is r.breaks (c.in_ok-push_stretches.ensures ∙ ap (λ ps. (map piece_of c.loop-breaks.pieces.items) ++ stretches ps) c.as_slice-in-loop-breaks-2.ensures) c.loop-breaks.invariant.pieces;
    }

pub points_in_order-requires : goal.points_in_order-requires
points_in_order-requires c = nodes_are_points c.in_ok-order.order.items c.in_ok-positions.positions.items c.loop-breaks.breaks-index c.loop-breaks.nodes.items c.loop-breaks.invariant.nodes

pub stretches_in_order-requires : goal.stretches_in_order-requires
stretches_in_order-requires c = pieces_have_points c.in_ok-order.order.items c.in_ok-positions.positions.items c.loop-breaks.breaks-index (map piece_of c.loop-breaks.pieces.items) c.loop-breaks.invariant.pieces

pub returns-clause-tests : goal.returns-clause-tests
returns-clause-tests c = c.new.ensures.tests ∙ c.in_ok-swept.ensures.counted
    ∙ ap (λ es. min (overlapping_pairs es) (2 ^ 64 - 1)) c.as_slice.ensures.value ∙ ap (λ n. min n (2 ^ 64 - 1)) (pairs_in_order c.args.segments.now c.in_ok-order.order.items c.in_ok-order.ensures.permutation)

pub returns-clause-nodes : goal.returns-clause-nodes
returns-clause-nodes c = subst (All (IsCut c.args.segments.now c.args.listed.now)) (sym c.new.ensures.nodes)
    (cuts_of_same c.args.segments.now c.in_ok-order.order.items c.args.listed.now c.in_ok-positions.positions.items c.points_in_order.result.items (same_given c.args.segments.now c.in_ok-order.order.items c.args.listed.now c.in_ok-positions.positions.items c.in_ok-order.ensures.permutation c.in_ok-positions.ensures.permutation) (nodes_are_cuts c.in_ok-order.order.items c.in_ok-positions.positions.items c.loop-breaks.breaks-index c.loop-breaks.nodes.items c.points_in_order.result.items c.loop-breaks.invariant.nodes c.points_in_order.ensures))

pub returns-clause-nodes_found : goal.returns-clause-nodes_found
returns-clause-nodes_found c = subst (ListsCuts c.args.segments.now c.args.listed.now) (sym c.new.ensures.nodes)
    (lists_cuts_of_same c.args.segments.now c.in_ok-order.order.items c.args.listed.now c.in_ok-positions.positions.items c.points_in_order.result.items (same_given c.args.segments.now c.in_ok-order.order.items c.args.listed.now c.in_ok-positions.positions.items c.in_ok-order.ensures.permutation c.in_ok-positions.ensures.permutation) (has_cuts c.in_ok-order.order.items c.in_ok-positions.positions.items c.loop-breaks.breaks-index c.loop-breaks.nodes.items c.points_in_order.result.items (all_gone c.in_ok-order.order.items c.as_slice.result.now c.as_slice-2.result.now c.in_ok-swept.swept.breaks.items c.as_slice-breaks-items.result.now c.loop-breaks.breaks-index c.as_slice.ensures.value c.as_slice-breaks-items.ensures.value c.in_ok-swept.ensures.breaks c.loop-breaks-test.false) c.loop-breaks.invariant.nodes c.points_in_order.ensures))

pub returns-clause-triples : goal.returns-clause-triples
returns-clause-triples c = subst (All IsNodeTriple) (sym c.new.ensures.nodes)
    (nodes_are_triples c.in_ok-order.order.items c.in_ok-positions.positions.items c.loop-breaks.breaks-index c.loop-breaks.nodes.items c.points_in_order.result.items c.loop-breaks.invariant.nodes c.points_in_order.ensures)

pub returns-clause-pieces : goal.returns-clause-pieces
returns-clause-pieces c = subst (All (IsPiece c.args.segments.now c.args.listed.now)) (sym c.new.ensures.pieces)
    (pieces_of_same c.args.segments.now c.in_ok-order.order.items c.args.listed.now c.in_ok-positions.positions.items (map piece_of c.stretches_in_order.result.items) (same_given c.args.segments.now c.in_ok-order.order.items c.args.listed.now c.in_ok-positions.positions.items c.in_ok-order.ensures.permutation c.in_ok-positions.ensures.permutation) (pieces_are_pieces c.in_ok-order.order.items c.in_ok-positions.positions.items c.loop-breaks.breaks-index (map piece_of c.loop-breaks.pieces.items) (map piece_of c.stretches_in_order.result.items) c.loop-breaks.invariant.pieces c.stretches_in_order.ensures))

pub returns-clause-pieces_found : goal.returns-clause-pieces_found
returns-clause-pieces_found c = subst (ListsPieces c.args.segments.now c.args.listed.now) (sym c.new.ensures.pieces)
    (lists_pieces_of_same c.args.segments.now c.in_ok-order.order.items c.args.listed.now c.in_ok-positions.positions.items (map piece_of c.stretches_in_order.result.items) (same_given c.args.segments.now c.in_ok-order.order.items c.args.listed.now c.in_ok-positions.positions.items c.in_ok-order.ensures.permutation c.in_ok-positions.ensures.permutation) (has_pieces c.in_ok-order.order.items c.in_ok-positions.positions.items c.loop-breaks.breaks-index (map piece_of c.loop-breaks.pieces.items) (map piece_of c.stretches_in_order.result.items) (all_gone c.in_ok-order.order.items c.as_slice.result.now c.as_slice-2.result.now c.in_ok-swept.swept.breaks.items c.as_slice-breaks-items.result.now c.loop-breaks.breaks-index c.as_slice.ensures.value c.as_slice-breaks-items.ensures.value c.in_ok-swept.ensures.breaks c.loop-breaks-test.false) c.loop-breaks.invariant.pieces c.stretches_in_order.ensures))

pub returns-clause-end_triples : goal.returns-clause-end_triples
returns-clause-end_triples c = subst (All HasNodeTriples) (sym c.new.ensures.pieces)
    (pieces_have_triples c.in_ok-order.order.items c.in_ok-positions.positions.items c.loop-breaks.breaks-index (map piece_of c.loop-breaks.pieces.items) (map piece_of c.stretches_in_order.result.items) c.loop-breaks.invariant.pieces c.stretches_in_order.ensures)

pub returns-clause-exact_nodes : goal.returns-clause-exact_nodes
returns-clause-exact_nodes c = nodes_are_cut_points c.args.segments.now c.args.listed.now c.new.result.nodes (returns-clause-nodes c) (returns-clause-nodes_found c)
    (subst AscendingPoints (sym c.new.ensures.nodes) c.points_in_order.ensures.ascend) (returns-clause-triples c)

pub returns-clause-exact_pieces : goal.returns-clause-exact_pieces
returns-clause-exact_pieces c = pieces_are_listed c.args.segments.now c.args.listed.now c.new.result.pieces (returns-clause-pieces c) (returns-clause-pieces_found c)
    (subst AscendingPieces (sym c.new.ensures.pieces) c.stretches_in_order.ensures.ascend) (returns-clause-end_triples c)
