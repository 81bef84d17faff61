-- What was read from well-known binary is tested.
use Rattle.std.proofs.Common.{◌≡◌, ◌∙◌, ap, ℕ, List, Option, Some, None, Result, Ok, Err}
use Rattle.geometry_model.specs.FirstFaults.{validity_fault}
use Rattle.geometry_model.specs.declared.validity_faults.ValidityFault.{ValidityFault}
use Rattle.wkb.specs.BinaryReading.{read_binary}
use Rattle.std.specs.Prelude.{IfSome}
use Rattle.wkb.specs.ReadingSteps.{refusal_in}
use Rattle.wkb.specs.declared.binary_fault.BinaryFault.{BinaryFault}
use Rattle.wkb.specs.declared.binary_fault.BinaryFault.TheVariants as binary_faults
use Rattle.wkb.specs.declared.binary_fault.Refusal.{Refusal}
use Rattle.wkb.specs.declared.binary_fault.Refusal.TheVariants as wkb
use Rattle.wkb.specs.declared.grids.Grid.{Grid}
use Rattle.wkb.specs.declared.reading.Binary.{Binary}
use Rattle.library_calls.specs.Binaries.{IsUnread, faultless, faultless_or, unread_of, unread_of_fault, valid_binary}
use Rattle.library_calls.specs.Refusals.{validity_fault_in_numbers}
use Rattle.library_calls.specs.declared.binaries.Unread.{Unread}
use Rattle.library_calls.specs.declared.binaries.Unread.TheVariants as unread

of_refused : (grid : Grid) (bytes : List ℕ) (refusal : Refusal) → read_binary grid bytes ≡ Err refusal
    → valid_binary grid bytes ≡ Err (unread_of refusal)
unfolding valid_binary
of_refused grid bytes refusal is = ap faultless is

is_unread : (outcome : Result Binary Unread) (refusal : Refusal) → outcome ≡ Err (unread_of refusal)
    → IsUnread outcome (unread_of refusal)
is_unread outcome (wkb.Syntax at) is = is
is_unread outcome (wkb.OffGrid at) is = is
is_unread outcome (wkb.OutOfRange at) is = is
is_unread outcome wkb.TooLong is = is
is_unread outcome (wkb.UnknownType at) is = is
is_unread outcome (wkb.EmptyPart at) is = is

pub bytes_unread : (grid : Grid) (bytes : List ℕ) (fault : BinaryFault)
    → IfSome (refusal_in fault) (λ refusal. read_binary grid bytes ≡ Err refusal)
    → IsUnread (valid_binary grid bytes) (unread_of_fault fault)
bytes_unread grid bytes (binary_faults.Refused refusal) is = is_unread (valid_binary grid bytes) refusal
    (of_refused grid bytes refusal is)
bytes_unread grid bytes binary_faults.OutOfMemory is = tt

pub read_valid : (grid : Grid) (bytes : List ℕ) (found : Binary) → read_binary grid bytes ≡ Ok found
    → validity_fault found.geometry ≡ None → valid_binary grid bytes ≡ Ok found
unfolding valid_binary
read_valid grid bytes found is none = ap faultless is ∙ ap (faultless_or found) none

pub read_invalid : (grid : Grid) (bytes : List ℕ) (found : Binary) (f : ValidityFault) → read_binary grid bytes ≡ Ok found
    → validity_fault found.geometry ≡ Some f → valid_binary grid bytes ≡ Err (unread.Refused (validity_fault_in_numbers f))
unfolding valid_binary
read_invalid grid bytes found f is some = ap faultless is ∙ ap (faultless_or found) some
