-- What comes after the place is white space.
use Rattle.std.proofs.Common.{◌-◌, ◌≤◌}
use Rattle.explanations.specs.Lines.{IsWhite}
use Rattle.explanations.proofs.lines.trimmed_end.Given as goal

abbrev pub invariant-loop-end : goal.invariant-loop-end
invariant-loop-end l = record {
  from : l.from ≤ l.end;
  to : l.end ≤ l.to;
  white : IsWhite l.text l.end l.to;
}

abbrev pub decreases-loop-end : goal.decreases-loop-end
decreases-loop-end l = l.end - l.from
