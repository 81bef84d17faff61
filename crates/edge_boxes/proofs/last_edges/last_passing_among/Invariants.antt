use Rattle.std.proofs.Common.{◌≡◌, ◌≤◌, ◌<◌, false, length}
use Rattle.std.specs.Prelude.{slice_range}
use Rattle.std.specs.List.{list_any}
use Rattle.edge_boxes.specs.BoxLists.{covered}
use Rattle.edge_boxes.specs.EdgeTests.{EndsPassing}
use Rattle.edge_boxes.proofs.last_edges.last_passing_among.Given as goal

-- no edge from here on passes; where the boxes before the place end sooner, the edge before does
abbrev pub invariant-loop-place : goal.invariant-loop-place
invariant-loop-place g l = record {
  within : l.place ≤ length l.boxes;
  before : l.left ≤ l.end;
  none : list_any (g.T.EdgeTest.test l.test) (slice_range l.edges l.left l.end) ≡ false;
  last : covered l.boxes l.place < l.left → EndsPassing (g.T.EdgeTest.test l.test) l.edges l.left;
}

abbrev pub decreases-loop-place : goal.decreases-loop-place
decreases-loop-place g l = l.place
