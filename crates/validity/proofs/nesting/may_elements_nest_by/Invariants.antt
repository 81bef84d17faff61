-- No polygon before this one surrounds another one's first position.
use Rattle.validity.proofs.Rays.{AreAround}
use Rattle.validity.proofs.nesting.may_elements_nest_by.Given as goal

abbrev pub invariant-loop-other : goal.invariant-loop-other
invariant-loop-other l = AreAround l.outline l.other
