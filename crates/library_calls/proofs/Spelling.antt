-- A text that is read as a valid geometry spells it.
use Rattle.std.proofs.Common.{◌≡◌, ℕ, List, Option, Some, None, Result, Ok, Err, refl}
use Rattle.geometry_model.specs.CheckedTexts.{geometry_in_text, tested, valid_or}
use Rattle.geometry_model.specs.FirstFaults.{validity_fault}
use Rattle.geometry_model.specs.Geometries.{Geometry}
use Rattle.geometry_model.specs.TextReading.{read_text}
use Rattle.geometry_model.specs.declared.text_faults.TextFault.{TextFault}
use Rattle.geometry_model.specs.declared.validity_faults.ValidityFault.{ValidityFault}
use Rattle.text_laws.specs.ReadingLaws.{ReadIsSpelled}
use Rattle.validity.proofs.Faults.{no_fault_valid}
use Rattle.library_calls.specs.Texts.{IsSpelled}

-- what was tested and found valid has no fault, and is what was read
pub no_fault : (h g : Geometry) (found : Option ValidityFault) → valid_or h found ≡ Ok g → (h ≡ g) × (found ≡ None)
no_fault h g None e = (let same : Ok h ≡ Ok g = e in cc, refl)
no_fault h g (Some fault) e = let k : valid_or h (Some fault) ≡ Ok g = e in absurd (cc)

was_read : (text : List ℕ) (g : Geometry) (r : Result Geometry TextFault) → read_text text ≡ r → tested r ≡ Ok g → (read_text text ≡ Ok g) × (validity_fault g ≡ None)
was_read text g (Ok h) read e = let found = no_fault h g (validity_fault h) e in (let same : h ≡ g = found.0 in cc, let same : h ≡ g = found.0 in let none : validity_fault h ≡ None = found.1 in cc)
was_read text g (Err fault) read e = let k : tested (Err fault) ≡ Ok g = e in absurd (cc)

pub spelled : ReadIsSpelled → (text : List ℕ) (g : Geometry) → geometry_in_text text ≡ Ok g → IsSpelled text g
unfolding geometry_in_text
spelled law text g e =
    let found = was_read text g (read_text text) refl e in
    record { spells = law text g found.0; valid = no_fault_valid g found.1; read = e }
