-- None before the next applies.
use Rattle.std.proofs.Common.{◌≡◌, map, length}
use Rattle.std.specs.List.{find}
use Rattle.geometry_model.specs.Geometries as spec
use Rattle.geometry_model.specs.FirstFaults.{has_fault, numbers}
use Rattle.geometry_model.specs.declared.validity_faults.ValidityFault.TheVariants as validity
use Rattle.validity.proofs.first_faults.short_line.Given as goal

abbrev pub invariant-loop-line : goal.invariant-loop-line
invariant-loop-line l = find (has_fault l.outline) (map validity.TooFewPoints (numbers 0 (length (spec.lines l.outline)))) ≡ find (has_fault l.outline) (map validity.TooFewPoints (numbers l.line (length (spec.lines l.outline))))
