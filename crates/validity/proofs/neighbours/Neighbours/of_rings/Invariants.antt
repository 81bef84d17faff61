-- The rings before this one have theirs.
use Rattle.std.proofs.Common.{◌≡◌, map, take}
use Rattle.geometry_model.specs.Geometries.{rings}
use Rattle.geometry_model.specs.Envelopes.{envelope_of_positions}
use Rattle.validity.proofs.neighbours.Neighbours.of_rings.Given as goal

abbrev pub invariant-loop-ring : goal.invariant-loop-ring
invariant-loop-ring l = l.envelopes.items ≡ map envelope_of_positions (take l.ring (rings l.outline))
