use Rattle.std.proofs.Common.{◌<◌}
use Rattle.witnesses.specs.Places.{MeetsWith}
use Rattle.witnesses.proofs.rings.meeting_with.Given as goal

-- none of the edges before this one
abbrev pub invariant-loop-j : goal.invariant-loop-j
invariant-loop-j l = (w : MeetsWith l.r l.s l.i) → w.j < l.j → ⊥
