-- None before this one clashes with a later one, and the boxes are those of the edges.
use Rattle.std.proofs.Common.{◌≡◌}
use Rattle.edge_boxes.specs.RingEdges.{edges_clash, clash_after}
use Rattle.edge_boxes.proofs.near_edges.clash_at_all.Given as goal

abbrev pub invariant-loop-i : goal.invariant-loop-i
invariant-loop-i l = edges_clash l.edges ≡ clash_after l.edges l.i
