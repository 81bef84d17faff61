use Rattle.std.proofs.Common.{◌<◌}
use Rattle.geometry_model.specs.Validity.{RingsShare}
use Rattle.witnesses.proofs.rings.meeting_place.Given as goal

-- none of the edges before this one
abbrev pub invariant-loop-i : goal.invariant-loop-i
invariant-loop-i l = (w : RingsShare l.r l.s) → w.i < l.i → ⊥
