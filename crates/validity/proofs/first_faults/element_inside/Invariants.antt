-- None before the next applies.
use Rattle.std.proofs.Common.{◌≡◌, map, length}
use Rattle.std.specs.List.{find, flat_map}
use Rattle.geometry_model.specs.Geometries as spec
use Rattle.geometry_model.specs.FirstFaults.{has_fault, numbers}
use Rattle.geometry_model.specs.declared.validity_faults.ValidityFault.TheVariants as validity
use Rattle.validity.proofs.first_faults.element_inside.Given as goal

abbrev pub invariant-loop-element : goal.invariant-loop-element
invariant-loop-element l = find (has_fault l.outline) (flat_map (λ i. map (validity.ElementInside i) (numbers 0 (length (spec.elements l.outline)))) (numbers 0 (length (spec.elements l.outline)))) ≡ find (has_fault l.outline) (flat_map (λ i. map (validity.ElementInside i) (numbers 0 (length (spec.elements l.outline)))) (numbers l.element (length (spec.elements l.outline))))
