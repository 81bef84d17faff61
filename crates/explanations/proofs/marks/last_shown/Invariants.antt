-- The place stays within the line, and what is left of the columns is what the bytes before it don't take.
use Rattle.std.proofs.Common.{◌≡◌, ◌+◌, ◌-◌, ◌≤◌, drop, take}
use Rattle.explanations.specs.Marks.{columns}
use Rattle.explanations.proofs.marks.last_shown.Given as goal

abbrev pub invariant-loop-to : goal.invariant-loop-to
invariant-loop-to l = record {
  place : l.place ≤ l.to;
  end : l.to ≤ l.end;
  left : l.left + columns l.utf8 (drop l.place (take l.to l.text)) ≡ 60;
}

abbrev pub decreases-loop-to : goal.decreases-loop-to
decreases-loop-to l = l.end - l.to
