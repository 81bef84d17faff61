use Rattle.std.proofs.Common.{◌≤◌}
use Rattle.std.specs.Prelude.{slice_range}
use Rattle.std.specs.List.{All}
use Rattle.de9im.specs.Raising.{IsUprightOutside}
use Rattle.de9im.proofs.outside_edges.left_upright.Given as goal

-- the edges from this place on are vertical and outside
abbrev pub invariant-loop-left : goal.invariant-loop-left
invariant-loop-left l = record {
  before : l.left ≤ l.end;
  outside : All (IsUprightOutside l.around) (slice_range l.segments l.left l.end);
}

abbrev pub decreases-loop-left : goal.decreases-loop-left
decreases-loop-left l = l.left
