-- None near it before this one clashes.
use Rattle.std.proofs.Common.{◌≡◌, length, drop}
use Rattle.std.specs.List.{list_any}
use Rattle.geometry_model.specs.FirstFaults.{clash}
use Rattle.edge_boxes.specs.RingEdges.{clashes_after}
use Rattle.edge_boxes.specs.NearRings.{numbered_sharing}
use Rattle.edge_boxes.proofs.near_edges.clashes_with.Given as goal

abbrev pub invariant-loop-j : goal.invariant-loop-j
invariant-loop-j l = clashes_after l.edges l.i l.e l.from ≡ list_any (clash (length l.edges) (l.i, l.e)) (drop l.j-index (numbered_sharing l.e l.from l.edges))
