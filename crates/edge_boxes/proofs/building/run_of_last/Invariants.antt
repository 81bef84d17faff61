use Rattle.std.proofs.Common.{◌≤◌, length}
use Rattle.edge_boxes.specs.Builds.{IsRunFrom}
use Rattle.edge_boxes.proofs.building.run_of_last.Given as goal

-- the run sums up the edges of the boxes from this place on
abbrev pub invariant-loop-left : goal.invariant-loop-left
invariant-loop-left l = record {
  within : l.place ≤ length l.boxes;
  run : IsRunFrom l.boxes l.run l.place;
}

abbrev pub decreases-loop-left : goal.decreases-loop-left
decreases-loop-left l = l.left
