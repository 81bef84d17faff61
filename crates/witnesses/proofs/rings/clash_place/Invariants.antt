use Rattle.std.proofs.Common.{◌<◌}
use Rattle.geometry_model.specs.Validity.{IsNotSimple}
use Rattle.witnesses.proofs.rings.clash_place.Given as goal

-- none of the edges before this one
abbrev pub invariant-loop-i : goal.invariant-loop-i
invariant-loop-i l = (w : IsNotSimple l.ring) → w.i < l.i → ⊥
