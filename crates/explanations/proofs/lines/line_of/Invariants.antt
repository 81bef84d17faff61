-- The line so far: no line feed is in it.
use Rattle.std.proofs.Common.{◌≢◌, ◌-◌, ◌≤◌, ◌<◌, ℕ, length, slice_index}
use Rattle.explanations.proofs.lines.line_of.Given as goal

abbrev pub invariant-loop-start : goal.invariant-loop-start
invariant-loop-start l = record {
  from : l.start ≤ l.place;
  whole : (k : ℕ) → l.start ≤ k → k < l.place → slice_index l.text k ≢ 10;
}

abbrev pub decreases-loop-start : goal.decreases-loop-start
decreases-loop-start l = l.start

abbrev pub invariant-loop-end : goal.invariant-loop-end
invariant-loop-end l = record {
  to : l.place ≤ l.end;
  within : l.end ≤ length l.text;
  whole : (k : ℕ) → l.start ≤ k → k < l.end → slice_index l.text k ≢ 10;
}

abbrev pub decreases-loop-end : goal.decreases-loop-end
decreases-loop-end l = length l.text - l.end
