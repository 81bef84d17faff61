-- None near before this one applies.
use Rattle.std.proofs.Common.{◌≡◌, ◌+◌, map, drop, length}
use Rattle.std.specs.List.{find}
use Rattle.geometry_model.specs.Geometries.{elements}
use Rattle.geometry_model.specs.FirstFaults.{has_fault, numbers}
use Rattle.geometry_model.specs.declared.validity_faults.ValidityFault.TheVariants as validity
use Rattle.validity.specs.Neighbours.{first_near}
use Rattle.validity.proofs.first_faults.element_meets_near.Given as goal

abbrev pub invariant-loop-later : goal.invariant-loop-later
invariant-loop-later l = find (has_fault l.outline) (map (validity.ElementsMeet l.element) (numbers (l.element + 1) (length (elements l.outline)))) ≡ first_near l.outline (validity.ElementsMeet l.element) (l.element + 1) (length (elements l.outline)) (drop l.later-index l.near)
