-- None before the next applies.
use Rattle.std.proofs.Common.{◌≡◌, ◌+◌, map}
use Rattle.std.specs.List.{find, flat_map}
use Rattle.geometry_model.specs.FirstFaults.{has_fault, numbers}
use Rattle.geometry_model.specs.declared.validity_faults.ValidityFault.TheVariants as validity
use Rattle.validity.proofs.first_faults.rings_of_one_meet.Given as goal

abbrev pub invariant-loop-ring : goal.invariant-loop-ring
invariant-loop-ring l = find (has_fault l.outline) (flat_map (λ i. map (validity.RingsMeet i) (numbers (i + 1) l.end)) (numbers l.first l.end)) ≡ find (has_fault l.outline) (flat_map (λ i. map (validity.RingsMeet i) (numbers (i + 1) l.end)) (numbers l.ring l.end))
