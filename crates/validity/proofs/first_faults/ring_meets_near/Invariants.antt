-- None near before this one applies.
use Rattle.std.proofs.Common.{◌≡◌, ◌+◌, map, drop}
use Rattle.std.specs.List.{find}
use Rattle.geometry_model.specs.FirstFaults.{has_fault, numbers}
use Rattle.geometry_model.specs.declared.validity_faults.ValidityFault.TheVariants as validity
use Rattle.validity.specs.Neighbours.{first_near}
use Rattle.validity.proofs.first_faults.ring_meets_near.Given as goal

abbrev pub invariant-loop-later : goal.invariant-loop-later
invariant-loop-later l = find (has_fault l.outline) (map (validity.RingsMeet l.ring) (numbers (l.ring + 1) (l.end))) ≡ first_near l.outline (validity.RingsMeet l.ring) (l.ring + 1) (l.end) (drop l.later-index l.near)
