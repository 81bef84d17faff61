-- None near before this one applies.
use Rattle.std.proofs.Common.{◌≡◌, map, drop, length}
use Rattle.std.specs.List.{find}
use Rattle.geometry_model.specs.Geometries.{elements}
use Rattle.geometry_model.specs.FirstFaults.{has_fault, numbers}
use Rattle.geometry_model.specs.declared.validity_faults.ValidityFault.TheVariants as validity
use Rattle.validity.specs.Neighbours.{first_near}
use Rattle.validity.proofs.first_faults.element_inside_near.Given as goal

abbrev pub invariant-loop-other : goal.invariant-loop-other
invariant-loop-other l = find (has_fault l.outline) (map (validity.ElementInside l.element) (numbers (0) (length (elements l.outline)))) ≡ first_near l.outline (validity.ElementInside l.element) (0) (length (elements l.outline)) (drop l.other-index l.near)
