use Rattle.std.proofs.Common.{◌≤◌}
use Rattle.edge_boxes.specs.Builds.{KeepsBoxes}
use Rattle.edge_boxes.proofs.building.join_rest.Given as goal

-- so far the boxes stay those of their edges
abbrev pub invariant-loop-left : goal.invariant-loop-left
invariant-loop-left l = record {
  keeps : KeepsBoxes l.initial.boxes.items l.boxes.items;
  lower : l.lower ≤ 1;
}

abbrev pub decreases-loop-left : goal.decreases-loop-left
decreases-loop-left l = l.left
