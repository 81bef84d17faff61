-- The polygons before this one have theirs.
use Rattle.std.proofs.Common.{◌≡◌, map, take}
use Rattle.geometry_model.specs.Geometries.{elements}
use Rattle.validity.specs.Neighbours.{element_envelope}
use Rattle.validity.proofs.neighbours.Neighbours.of_elements.Given as goal

abbrev pub invariant-loop-element : goal.invariant-loop-element
invariant-loop-element l = l.envelopes.items ≡ map element_envelope (take l.element (elements l.outline))
