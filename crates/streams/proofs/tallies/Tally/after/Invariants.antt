use Rattle.std.proofs.Common.{◌≡◌, ◌≤◌, ◌-◌, length, take}
use Rattle.std.specs.List.{fold}
use Rattle.streams.specs.Bounds.{tally_after}
use Rattle.streams.proofs.tallies.Tally.after.Given as goal

-- the tally is that of the bytes so far
abbrev pub invariant-loop-at : goal.invariant-loop-at
invariant-loop-at l = (l.at ≤ length l.bytes) × (l.tally ≡ fold tally_after l.initial.tally (take l.at l.bytes))

abbrev pub decreases-loop-at : goal.decreases-loop-at
decreases-loop-at l = length l.bytes - l.at
