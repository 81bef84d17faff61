-- No edge before this one shares a point with a later one.
use Rattle.std.proofs.Common.{◌≡◌, drop}
use Rattle.edge_boxes.specs.RingEdges.{edges_share}
use Rattle.validity.proofs.apart.may_meet_later.Given as goal

abbrev pub invariant-loop-edge : goal.invariant-loop-edge
invariant-loop-edge l = edges_share l.run (drop l.from l.edges) ≡ edges_share (drop l.edge-index l.run) (drop l.from l.edges)
