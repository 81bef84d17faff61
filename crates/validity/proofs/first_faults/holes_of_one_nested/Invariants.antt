-- None before the next applies.
use Rattle.std.proofs.Common.{◌≡◌, ◌+◌, map}
use Rattle.std.specs.List.{find, flat_map}
use Rattle.geometry_model.specs.FirstFaults.{has_fault, numbers}
use Rattle.geometry_model.specs.declared.validity_faults.ValidityFault.TheVariants as validity
use Rattle.validity.proofs.first_faults.holes_of_one_nested.Given as goal

abbrev pub invariant-loop-hole : goal.invariant-loop-hole
invariant-loop-hole l = find (has_fault l.outline) (flat_map (λ i. map (validity.HolesNested i) (numbers (i + 1) l.end)) (numbers (l.first + 1) l.end)) ≡ find (has_fault l.outline) (flat_map (λ i. map (validity.HolesNested i) (numbers (i + 1) l.end)) (numbers l.hole l.end))
