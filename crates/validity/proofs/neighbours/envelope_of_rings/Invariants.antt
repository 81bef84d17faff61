-- It is that of the rings before this one.
use Rattle.std.proofs.Common.{◌≡◌, take}
use Rattle.validity.specs.Neighbours.{element_envelope}
use Rattle.validity.proofs.neighbours.envelope_of_rings.Given as goal

abbrev pub invariant-loop-ring : goal.invariant-loop-ring
invariant-loop-ring l = l.all ≡ element_envelope (take l.ring-index l.rings)
