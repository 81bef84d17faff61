-- What the taking of arrays and the test of what was taken make together.
use Rattle.std.proofs.Common.{◌≡◌, Some, None, Ok, Err, ap, ◌∙◌}
use Rattle.geometry_model.specs.CheckedTexts.{tested, valid_or}
use Rattle.geometry_model.specs.FirstFaults.{validity_fault}
use Rattle.geometry_model.specs.Geometries.{Geometry}
use Rattle.geometry_model.specs.declared.geometry_faults.GeometryFault.TheVariants as faults
use Rattle.geometry_model.specs.declared.text_faults.TextFault.{TextFault}
use Rattle.geometry_model.specs.declared.validity_faults.ValidityFault.{ValidityFault}
use Rattle.library_calls.specs.Written.{geometry_in_arrays, taken}

pub of_untaken : (w : Geometry) (fault : TextFault) → taken w ≡ Err fault → geometry_in_arrays w ≡ Err (faults.Text fault)
unfolding geometry_in_arrays
of_untaken w fault read = ap tested read

pub of_invalid : (w g : Geometry) (fault : ValidityFault) → taken w ≡ Ok g → validity_fault g ≡ Some fault → geometry_in_arrays w ≡ Err (faults.Invalid fault)
unfolding geometry_in_arrays
of_invalid w g fault read found = ap tested read ∙ ap (valid_or g) found

pub of_valid : (w g : Geometry) → taken w ≡ Ok g → validity_fault g ≡ None → geometry_in_arrays w ≡ Ok g
unfolding geometry_in_arrays
of_valid w g read faultless = ap tested read ∙ ap (valid_or g) faultless
