use Rattle.std.proofs.Common.{◌≡◌, ◌≤◌, false, length, drop}
use Rattle.std.specs.List.{list_any}
use Rattle.edge_boxes.specs.BoxLists.{covered}
use Rattle.edge_boxes.proofs.edge_tests.is_any_among.Given as goal

-- there is none among the edges from where the boxes before the place end
abbrev pub invariant-loop-place : goal.invariant-loop-place
invariant-loop-place g l = record {
  within : l.place ≤ length l.boxes;
  none : list_any (g.T.EdgeTest.test l.test) (drop (covered l.boxes l.place) l.edges) ≡ false;
}

abbrev pub decreases-loop-place : goal.decreases-loop-place
decreases-loop-place g l = l.place
