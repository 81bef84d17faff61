-- None before the next applies.
use Rattle.std.proofs.Common.{◌≡◌, map, length}
use Rattle.std.specs.List.{find}
use Rattle.geometry_model.specs.Geometries as spec
use Rattle.geometry_model.specs.FirstFaults.{has_fault, numbers}
use Rattle.geometry_model.specs.declared.validity_faults.ValidityFault.TheVariants as validity
use Rattle.validity.proofs.first_faults.ring_not_simple.Given as goal

abbrev pub invariant-loop-ring : goal.invariant-loop-ring
invariant-loop-ring l = find (has_fault l.outline) (map validity.RingNotSimple (numbers 0 (length (spec.rings l.outline)))) ≡ find (has_fault l.outline) (map validity.RingNotSimple (numbers l.ring (length (spec.rings l.outline))))
