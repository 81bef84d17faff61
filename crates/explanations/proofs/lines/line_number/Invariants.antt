-- The number of the line so far.
use Rattle.std.proofs.Common.{◌≡◌, ◌+◌, ◌-◌, ◌≤◌, take}
use Rattle.std.specs.List.{count_by}
use Rattle.explanations.specs.Lines.{ends_line}
use Rattle.explanations.proofs.lines.line_number.Given as goal

abbrev pub invariant-loop-at : goal.invariant-loop-at
invariant-loop-at l = record {
  within : l.at ≤ l.place;
  number : l.number ≡ count_by ends_line (take l.at l.text) + 1;
  few : l.number ≤ l.at + 1;
}

abbrev pub decreases-loop-at : goal.decreases-loop-at
decreases-loop-at l = l.place - l.at
