-- The place stays within the line, and what is left of the columns is what the bytes from it on don't take.
use Rattle.std.proofs.Common.{◌≡◌, ◌+◌, ◌-◌, ◌≤◌, ◌<◌, drop, take}
use Rattle.explanations.specs.Marks.{columns}
use Rattle.explanations.proofs.marks.first_shown.Given as goal

abbrev pub invariant-loop-from : goal.invariant-loop-from
invariant-loop-from l = record {
  start : l.start ≤ l.from;
  place : l.from ≤ l.place;
  left : l.left + columns l.utf8 (drop l.from (take l.place l.text)) ≡ 100;
}

abbrev pub decreases-loop-from : goal.decreases-loop-from
decreases-loop-from l = l.from - l.start

abbrev pub invariant-loop-from-2 : goal.invariant-loop-from-2
invariant-loop-from-2 l = record {
  start : l.start ≤ l.from;
  place : l.from ≤ l.place;
  fits : columns l.utf8 (drop l.from (take l.place l.text)) ≤ 100;
  cut : l.start < l.from → 96 < columns l.utf8 (drop l.from (take l.place l.text));
}

abbrev pub decreases-loop-from-2 : goal.decreases-loop-from-2
decreases-loop-from-2 l = l.place - l.from
