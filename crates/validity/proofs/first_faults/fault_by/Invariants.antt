-- None before the next applies.
use Rattle.std.proofs.Common.{◌≡◌, drop}
use Rattle.std.specs.List.{find, flat_map}
use Rattle.geometry_model.specs.Validity.{numbered_elements}
use Rattle.geometry_model.specs.FirstFaults.{has_fault, rings_end}
use Rattle.validity.specs.FaultOrder.{of_polygon, of_polygons}
use Rattle.validity.proofs.first_faults.fault_by.Given as goal

abbrev pub invariant-loop-element : goal.invariant-loop-element
invariant-loop-element l = find (has_fault l.outline) (of_polygons l.test l.outline) ≡ find (has_fault l.outline) (flat_map (λ e. of_polygon l.test e.first (rings_end e)) (drop l.element (numbered_elements l.outline)))
