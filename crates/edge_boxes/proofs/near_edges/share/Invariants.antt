-- None of the others before this one shares a point with an edge.
use Rattle.std.proofs.Common.{◌≡◌, drop}
use Rattle.edge_boxes.specs.RingEdges.{edges_share}
use Rattle.edge_boxes.proofs.near_edges.share.Given as goal

abbrev pub invariant-loop-f : goal.invariant-loop-f
invariant-loop-f l = edges_share l.edges l.others ≡ edges_share l.edges (drop l.f-index l.others)
