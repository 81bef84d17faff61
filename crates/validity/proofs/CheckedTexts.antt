-- What the reading of a text and the test of what was read make together.
use Rattle.std.proofs.Common.{◌≡◌, ℕ, List, Some, None, Ok, Err, ap, ◌∙◌}
use Rattle.geometry_model.specs.CheckedTexts.{geometry_in_text, tested, valid_or}
use Rattle.geometry_model.specs.FirstFaults.{validity_fault}
use Rattle.geometry_model.specs.Geometries.{Geometry}
use Rattle.geometry_model.specs.TextReading.{read_text}
use Rattle.geometry_model.specs.declared.geometry_faults.GeometryFault.TheVariants as faults
use Rattle.geometry_model.specs.declared.text_faults.TextFault.{TextFault}
use Rattle.geometry_model.specs.declared.validity_faults.ValidityFault.{ValidityFault}

-- a text that can't be read gives the fault of the text, before anything is tested
pub of_unread : (text : List ℕ) (fault : TextFault) → read_text text ≡ Err fault → geometry_in_text text ≡ Err (faults.Text fault)
unfolding geometry_in_text
of_unread text fault read = ap tested read

-- a text that spells a geometry with a fault gives that fault
pub of_invalid : (text : List ℕ) (g : Geometry) (fault : ValidityFault) → read_text text ≡ Ok g → validity_fault g ≡ Some fault → geometry_in_text text ≡ Err (faults.Invalid fault)
unfolding geometry_in_text
of_invalid text g fault read found = ap tested read ∙ ap (valid_or g) found

-- a text that spells a geometry without fault gives the geometry
pub of_valid : (text : List ℕ) (g : Geometry) → read_text text ≡ Ok g → validity_fault g ≡ None → geometry_in_text text ≡ Ok g
unfolding geometry_in_text
of_valid text g read faultless = ap tested read ∙ ap (valid_or g) faultless
