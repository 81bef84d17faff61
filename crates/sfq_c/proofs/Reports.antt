-- What a refusal reports: its status, and the fault that it writes.
use Rattle.std.proofs.Common.{◌≡◌, ℕ, List, refl}
use Rattle.geometry_model.specs.CheckedTexts.{geometry_in_text}
use Rattle.library_calls.specs.Refusals.{IsRefusalOf, fault_after, first_refused, out_of_memory, status_of}
use Rattle.library_calls.specs.Texts.{IsRefusedFor}
use Rattle.library_calls.specs.declared.faults.Fault.{Fault}
use Rattle.library_calls.specs.declared.faults.Refusal.{Refusal}
use Rattle.library_calls.specs.declared.faults.Refusal.TheVariants as refusal

-- a text that is refused leaves its fault
pub one_refused : (text : List ℕ) (r : Refusal) (old : Fault) → IsRefusalOf (geometry_in_text text) r → status_of r ≡ first_refused → IsRefusedFor text (fault_after r old)
one_refused text (refusal.First fault) old is status = (fault, is, refl)
one_refused text (refusal.Second fault) old is status = absurd is
one_refused text refusal.OutOfMemory old is status = let k : out_of_memory ≡ first_refused = status in absurd (cc)
