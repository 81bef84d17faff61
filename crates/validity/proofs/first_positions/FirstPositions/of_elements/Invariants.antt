-- The polygons before this one have theirs.
use Rattle.std.proofs.Common.{◌≡◌, map, take}
use Rattle.geometry_model.specs.Geometries.{elements}
use Rattle.validity.specs.Rays.{first_of_element}
use Rattle.validity.proofs.first_positions.FirstPositions.of_elements.Given as goal

abbrev pub invariant-loop-element : goal.invariant-loop-element
invariant-loop-element l = l.positions.items ≡ map first_of_element (take l.element (elements l.outline))
