-- What the command `why` means, and the ends that it may have.
use Rattle.std.specs.Prelude.{◌≡◌, ℕ, List, codes, Option, IfErr, IfOk, Result}
use Rattle.failures.specs.declared.failure.Failure.{Failure}
use Rattle.witnesses.specs.WitnessTexts.{witnesses_text}
use Rattle.table_model.specs.RunOutcomes.{MatrixOf}
use Rattle.failures.specs.Ends.{End}
use Rattle.text_commands.specs.Ends.{PutsText, Then}
use Rattle.text_commands.specs.Explanations.{MayExplainText, MayExplainTexts}
use Rattle.text_commands.specs.Files.{Opening}
use Rattle.text_commands.specs.declared.files.File.TheVariants as role
use Rattle.text_commands.specs.TextCommands.{OverTexts, OverWord}
use Rattle.text_commands.specs.TextVerdicts.{spelled_geometry}
use Rattle.text_commands.specs.TextWitnesses.{ShowsTexts}
use Rattle.text_commands.specs.Relations.{IsFailureOf, relation}
use Rattle.witnesses.specs.VerdictTexts.{verdict_text}
use Rattle.witnesses.specs.Verdicts.{IsVerdictOf}
use Rattle.witnesses.specs.declared.verdict.Verdict.{Verdict}
use Rattle.witnesses.specs.Shown.{witness_at}
use Rattle.witnesses.specs.declared.witness.Witnesses.{Witnesses}
use Rattle.text_commands.specs.GivenTexts.{ReadsGeometry}

-- showing the cells of the matrix of two texts ends so: witnesses of the cells are found, and their nine lines written; or the
-- refusal of `relate` ends it, or running out of memory
pub record ShowsCells {S : Type 0} (taken : S → Option (List ℕ)) (failures : S → ℕ) (old new : S) (first second : List ℕ) (end : End) : Type 0 where
  pub found : Result Witnesses Failure
  pub shows : IfOk found (ShowsTexts first second)
  pub refused : (matrix : MatrixOf) → IfErr found (IsFailureOf (relation matrix first second))
  pub rest : Then found (λ w. PutsText taken failures old new (witnesses_text (witness_at w)) end) end (new ≡ old)

-- showing whether the geometry of a text is valid ends so: the line of the verdict on it is written; or the refusal of the text ends
-- it, or running out of memory
pub record ShowsVerdict {S : Type 0} (taken : S → Option (List ℕ)) (failures : S → ℕ) (old new : S) (text : List ℕ) (end : End) : Type 0 where
  pub found : Result Verdict Failure
  pub holds : IfOk found (IsVerdictOf text)
  pub refused : IfErr found (IsFailureOf (spelled_geometry text))
  pub rest : Then found (λ v. PutsText taken failures old new (verdict_text v) end) end (new ≡ old)

-- the sink of the answer and that of explanations, before and after a command
module _ {F R S M : Type 0} (opens : Opening F R) (remaining : R → Option (List ℕ)) (taken : S → Option (List ℕ)) (failures : S → ℕ) (old new : S)
    (mtaken : M → Option (List ℕ)) (mfailures : M → ℕ) (mold mnew : M) where
  -- showing the cells of the matrix of the geometries that two words give ends so, and perhaps what explains that one is refused is written
  abbrev pub ExplainsCells : F → List ℕ → List ℕ → End → Type 0
  ExplainsCells =
      OverTexts opens remaining
      (λ first second end. ShowsCells taken failures old new first second end × MayExplainTexts mtaken mfailures mold mnew first second end)
      ((new ≡ old) × (mnew ≡ mold))

  -- showing whether the geometry that a word gives is valid ends so, and perhaps what explains that its text spells none is written
  abbrev pub ExplainsValidity : F → List ℕ → End → Type 0
  ExplainsValidity opener word end =
      OverWord (opens role.Geometry) (ReadsGeometry remaining (codes "first")) opener word
      (λ next text ending. ShowsVerdict taken failures old new text ending × MayExplainText mtaken mfailures mold mnew text ending)
      end ((new ≡ old) × (mnew ≡ mold))
