-- What shows the cells of a matrix, and where a geometry isn't valid, as text that a caller's room gets.
use Rattle.std.specs.Prelude.{◌≡◌, ℕ, List, Err, ◌++◌, drop, length}
use Rattle.geometry_model.specs.Dimensions.{IsMatrix}
use Rattle.geometry_model.specs.Geometries.{Geometry}
use Rattle.geometry_model.specs.TextReading.{read_text}
use Rattle.geometry_model.specs.declared.geometry_faults.GeometryFault.TheVariants as either
use Rattle.geometry_model.specs.declared.text_faults.TextFault.{TextFault}
use Rattle.witnesses.specs.WitnessTexts.{witnesses_text}
use Rattle.witnesses.specs.VerdictTexts.{verdict_text}
use Rattle.witnesses.specs.Verdicts.{IsVerdictOf}
use Rattle.witnesses.specs.declared.verdict.Verdict.{Verdict}
use Rattle.witnesses.specs.FirstWitnesses.{AreFirst}
use Rattle.witnesses.specs.Shown.{ShowsAll, shown_matrix, witness_at}
use Rattle.witnesses.specs.declared.witness.Witnesses.{Witnesses}
use Rattle.library_calls.specs.Kept.{status_of_room}
use Rattle.library_calls.specs.Refusals.{ok, text_fault_in_numbers}
use Rattle.library_calls.specs.declared.faults.Fault.{Fault}
use Rattle.library_calls.specs.declared.faults.Refusal.{Refusal}
use Rattle.library_calls.specs.declared.faults.Refusal.TheVariants as refusal

-- the nine lines are those of witnesses of two geometries: the dimensions that they show are the DE-9IM matrix, and each shows what its two parts have in common, and is the first that does (06-103r4, 6.1.15.2; which is the first: this project's choice)
pub record AreWitnessLines (a b : Geometry) (text : List ℕ) : Type 0 where
  pub witnesses : Witnesses
  pub matrix : IsMatrix a b (shown_matrix (witness_at witnesses))
  pub shows : ShowsAll a b (witness_at witnesses)
  pub first : AreFirst a b (witness_at witnesses)
  pub lines : text ≡ witnesses_text (witness_at witnesses)

-- the line is that of the verdict on the geometry that a text spells: `valid`, or its first fault and a place of it (06-103r4, 6.1.7, 6.1.11.1 and 6.1.14)
pub record IsVerdictLine (spelled : List ℕ) (text : List ℕ) : Type 0 where
  pub verdict : Verdict
  pub is_verdict : IsVerdictOf spelled verdict
  pub line : text ≡ verdict_text verdict

-- one of these texts is handed out: the size is its length, and the room begins with it where it is large enough, as the status says
pub record HandsOut (IsOne : List ℕ → Type 0) (old new : List ℕ) (size status : ℕ) : Type 0 where
  pub text : List ℕ
  pub is_one : IsOne text
  pub size_of : size ≡ length text
  pub status_of : status ≡ status_of_room text old
  pub room : status ≡ ok → new ≡ text ++ drop (length text) old

-- the text spells no geometry, and this is its first fault in numbers (06-103r4, 7.2; the order and the numbers: this project's choice)
abbrev pub IsUnreadFor : List ℕ → Fault → Type 0
IsUnreadFor text numbers = (fault : TextFault) × (read_text text ≡ Err fault) × (numbers ≡ text_fault_in_numbers fault)

-- the refusal is that of a text that spells no geometry, or of memory
abbrev pub IsTextRefusal : List ℕ → Refusal → Type 0
IsTextRefusal text (refusal.First (either.Text fault)) = read_text text ≡ Err fault
IsTextRefusal text (refusal.First (either.Invalid fault)) = ⊥
IsTextRefusal text (refusal.Second fault) = ⊥
IsTextRefusal text refusal.OutOfMemory = Unit {0}
