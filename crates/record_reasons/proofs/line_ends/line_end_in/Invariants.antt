-- No field before this place holds one.
use Rattle.std.proofs.Common.{◌≡◌, ◌<◌, ℕ, false}
use Rattle.csv.specs.Records.{fields_of}
use Rattle.record_reasons.specs.LineEnds.{holds_line_end}
use Rattle.record_reasons.proofs.line_ends.line_end_in.Given as goal

abbrev pub invariant-loop-place : goal.invariant-loop-place
invariant-loop-place l = (k : ℕ) → k < l.place → holds_line_end (fields_of l.«record») k ≡ false
