use Rattle.std.proofs.Common.{◌<◌}
use Rattle.witnesses.specs.Places.{ClashesWith}
use Rattle.witnesses.proofs.rings.clash_with.Given as goal

-- none of the edges before this one
abbrev pub invariant-loop-j : goal.invariant-loop-j
invariant-loop-j l = (w : ClashesWith l.ring l.i) → w.j < l.j → ⊥
