-- No hole before this one surrounds another ring's first position.
use Rattle.validity.proofs.Rays.{AreAroundNone}
use Rattle.validity.proofs.nesting.may_holes_nest_by.Given as goal

abbrev pub invariant-loop-hole : goal.invariant-loop-hole
invariant-loop-hole l = AreAroundNone l.outline l.first l.hole
