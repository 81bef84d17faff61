use Rattle.std.proofs.Common.{◌≡◌, ◌-◌, ◌≤◌, false}
use Rattle.std.specs.Prelude.{slice_range}
use Rattle.std.specs.List.{list_any}
use Rattle.edge_boxes.proofs.last_edges.last_in_run.Given as goal

-- no edge from here on passes
abbrev pub invariant-loop-left : goal.invariant-loop-left
invariant-loop-left g l = record {
  before : l.left ≤ l.end;
  none : list_any (g.T.EdgeTest.test l.test) (slice_range l.edges l.left l.end) ≡ false;
}

abbrev pub decreases-loop-left : goal.decreases-loop-left
decreases-loop-left g l = l.left - l.first
