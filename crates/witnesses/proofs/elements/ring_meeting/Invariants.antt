use Rattle.std.proofs.Common.{◌<◌}
use Rattle.witnesses.specs.FaultPlaces.{MeetsOne}
use Rattle.witnesses.proofs.elements.ring_meeting.Given as goal

-- the ring meets none of those before this one
abbrev pub invariant-loop-other : goal.invariant-loop-other
invariant-loop-other l = (w : MeetsOne l.ring l.others) → w.second.0 < l.other-index → ⊥
