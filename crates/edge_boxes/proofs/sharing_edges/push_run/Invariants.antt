use Rattle.std.proofs.Common.{◌≡◌, ◌≤◌, ◌++◌, reverse}
use Rattle.std.specs.Prelude.{slice_range}
use Rattle.edge_boxes.specs.Sharings.{places_asked}
use Rattle.edge_boxes.proofs.sharing_edges.push_run.Given as goal

-- the edges from this one on were asked
abbrev pub invariant-loop-at : goal.invariant-loop-at
invariant-loop-at l = record {
  ordered : l.first ≤ l.at;
  within : l.at ≤ l.end;
  found : l.found.items ≡ l.initial.found.items ++ reverse (places_asked l.asked l.at (slice_range l.edges l.at l.end));
}

abbrev pub decreases-loop-at : goal.decreases-loop-at
decreases-loop-at l = l.at
