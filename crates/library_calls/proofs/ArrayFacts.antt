-- Arrays that are taken as a valid geometry are each text with the same numbers.
use Rattle.std.proofs.Common.{◌≡◌, ℕ, Option, Some, None, Result, Ok, Err, refl, sym, ap, ◌∙◌, if◌then◌else◌, Bool, true, false}
use Rattle.geometry_model.specs.CheckedTexts.{tested}
use Rattle.geometry_model.specs.FirstFaults.{validity_fault}
use Rattle.geometry_model.specs.Geometries.{Geometry}
use Rattle.geometry_model.specs.WellKnownText.{geometry_of, written_positions}
use Rattle.geometry_model.specs.declared.text_faults.TextFault.{TextFault}
use Rattle.geometry_model.specs.declared.text_faults.TextFault.TheVariants.{TooLong}
use Rattle.library_calls.specs.ArrayLaws.{ArraysAreAsTexts}
use Rattle.library_calls.specs.Written.{first_past_limit, geometry_in_arrays, is_within_counts, taken, within_or}
use Rattle.text_laws.specs.ReadingLaws.{ReadIsSpelled}
use Rattle.validity.proofs.Faults.{no_fault_valid}
use Rattle.library_calls.specs.Arrays.{IsTaken}
use Rattle.library_calls.proofs.Spelling.{no_fault, spelled}

-- what is taken is what is written, without repeats
from_within : (w g : Geometry) (first : Option ℕ) → within_or w first ≡ Ok g → g ≡ geometry_of w
from_within w g None e = let same : Ok (geometry_of w) ≡ Ok g = e in cc
from_within w g (Some at) e = let k : within_or w (Some at) ≡ Ok g = e in absurd (cc)

from_taken : (w g : Geometry) (few : Bool) → is_within_counts w ≡ few → taken w ≡ Ok g → g ≡ geometry_of w
from_taken w g true few e =
    from_within w g (first_past_limit 0 (written_positions w))
    (sym (ap (λ test. if test then within_or w (first_past_limit 0 (written_positions w)) else Err TooLong) few) ∙ e)
from_taken w g false few e =
    let k : Err TooLong ≡ Ok g = sym (ap (λ test. if test then within_or w (first_past_limit 0 (written_positions w)) else Err TooLong) few) ∙ e in absurd (cc)

-- what was tested and found valid was taken, and has no fault
was_taken : (w g : Geometry) (r : Result Geometry TextFault) → taken w ≡ r → tested r ≡ Ok g → (taken w ≡ Ok g) × (validity_fault g ≡ None)
was_taken w g (Ok h) read e = let found = no_fault h g (validity_fault h) e in (let same : h ≡ g = found.0 in cc, let same : h ≡ g = found.0 in let none : validity_fault h ≡ None = found.1 in cc)
was_taken w g (Err fault) read e = let k : tested (Err fault) ≡ Ok g = e in absurd (cc)

pub is_taken : ReadIsSpelled → ArraysAreAsTexts → (w g : Geometry) → geometry_in_arrays w ≡ Ok g → IsTaken w g
unfolding geometry_in_arrays
is_taken reads law w g e =
    let found = was_taken w g (taken w) refl e in
    record {
      meant = from_taken w g (is_within_counts w) refl found.0;
      valid = no_fault_valid g found.1;
      taken = e;
      as_text = λ text writes. spelled reads text g (law w text writes ∙ e);
    }
