use Rattle.std.proofs.Common.{◌<◌, ◌-◌, length}
use Rattle.edge_boxes.specs.BoxLists.{IsRun}
use Rattle.edge_boxes.proofs.building.leaf.Given as goal

-- the run sums up the edges up to this one
abbrev pub invariant-loop-end : goal.invariant-loop-end
invariant-loop-end l = record {
  later : l.first < l.end;
  run : IsRun l.edges l.run l.first l.end;
}

abbrev pub decreases-loop-end : goal.decreases-loop-end
decreases-loop-end l = length l.edges - l.end
