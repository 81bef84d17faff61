-- None near before this one applies.
use Rattle.std.proofs.Common.{◌≡◌, ◌+◌, map, drop}
use Rattle.std.specs.List.{find}
use Rattle.geometry_model.specs.FirstFaults.{has_fault, numbers}
use Rattle.geometry_model.specs.declared.validity_faults.ValidityFault.TheVariants as validity
use Rattle.validity.specs.Neighbours.{first_near}
use Rattle.validity.proofs.first_faults.hole_nested_near.Given as goal

abbrev pub invariant-loop-later : goal.invariant-loop-later
invariant-loop-later l = find (has_fault l.outline) (map (validity.HolesNested l.hole) (numbers (l.hole + 1) (l.end))) ≡ first_near l.outline (validity.HolesNested l.hole) (l.hole + 1) (l.end) (drop l.later-index l.near)
