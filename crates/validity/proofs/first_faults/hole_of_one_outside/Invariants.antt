-- None before the next applies.
use Rattle.std.proofs.Common.{◌≡◌, ◌+◌, map}
use Rattle.std.specs.List.{find}
use Rattle.geometry_model.specs.FirstFaults.{has_fault, numbers}
use Rattle.geometry_model.specs.declared.validity_faults.ValidityFault.TheVariants as validity
use Rattle.validity.proofs.first_faults.hole_of_one_outside.Given as goal

abbrev pub invariant-loop-hole : goal.invariant-loop-hole
invariant-loop-hole l = find (has_fault l.outline) (map validity.HoleOutside (numbers (l.first + 1) l.end)) ≡ find (has_fault l.outline) (map validity.HoleOutside (numbers l.hole l.end))
