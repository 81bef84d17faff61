-- What each command means that needs no schema, and the ends that it may have.
use Rattle.std.specs.Prelude.{◌≡◌, ◌≢◌, ◌++◌, ⊤, ℕ, List, [], ◌∷◌, codes, Option, Some, None, Result, Ok, Err}
use Rattle.std.specs.Io.KnownBytes.{Appends, Keeps}
use Rattle.failures.specs.declared.failure.Failure.{Failure}
use Rattle.failures.specs.declared.failure.Failure.TheVariants as f
use Rattle.text_commands.specs.FaultPages.{HaveNoCode, IsLastOf, IsPageOf, ListsCodes}
use Rattle.text_commands.specs.Files.{Opening}
use Rattle.text_commands.specs.declared.fault_codes.FaultCode.{FaultCode}
use Rattle.text_commands.specs.declared.files.File.TheVariants as role
use Rattle.geometry_model.specs.Dimensions.{Matrix}
use Rattle.geometry_model.specs.Patterns.{matrix_text}
use Rattle.text_commands.specs.PairNotes.{MayNotePairs}
use Rattle.text_commands.specs.Pairs.{AreRead, CountsWrites, RelatesPairs}
use Rattle.text_commands.specs.declared.runs.Pairs.{Pairs}
use Rattle.text_commands.specs.declared.runs.Pairs.TheVariants as pairs
use Rattle.streams.specs.Sinks.{AppendsFront}
use Rattle.table_model.specs.Loading.{Record}
use Rattle.table_model.specs.RunOutcomes.{ByEveryMatrix, MatrixOf}
use Rattle.failures.specs.Ends.{End}
use Rattle.text_commands.specs.Ends.{Answers, Then, failed_writes}
use Rattle.text_commands.specs.Explanations.{MayExplainTexts}
use Rattle.text_commands.specs.Relations.{and_then, relation}
use Rattle.text_commands.specs.GivenTexts.{Gives, IsUnreadable, ReadsGeometry}

-- ---- words

-- how a command ends over the text that a word gives: it goes on with that text, or ends in the failure of getting it and has written nothing
pub record OverWord {F R : Type 0} (opens : F → List ℕ → Option R → F → Type 0) (Reads : Option R → Result (List ℕ) Failure → Type 0) (opener : F) (word : List ℕ)
    (Over : F → List ℕ → End → Type 0) (end : End) (Nothing : Type 0) : Type 0 where
  pub text : Result (List ℕ) Failure
  pub next : F
  pub given : Gives opens Reads opener word text next
  pub rest : Then text (λ t. Over next t end) end Nothing

module _ {F R : Type 0} (opens : Opening F R) (remaining : R → Option (List ℕ)) where
  -- how a command ends over the texts of the geometries that two words give: the first word's text is got first, then the second's
  abbrev pub OverTexts : (List ℕ → List ℕ → End → Type 0) → Type 0 → F → List ℕ → List ℕ → End → Type 0
  OverTexts Over Nothing opener first second end =
      OverWord (opens role.Geometry) (ReadsGeometry remaining (codes "first")) opener first
      (λ next one ending. OverWord (opens role.Geometry) (ReadsGeometry remaining (codes "second")) next second
      (λ after other last. Over one other last) ending Nothing) end Nothing

-- ---- relate

-- the text of a matrix: its nine characters and a line feed (06-103r4, 6.1.15.2)
abbrev pub relate_text : Matrix → List ℕ
relate_text matrix = matrix_text matrix ++ codes "\n"

-- the text of the matrix of the geometries that two texts spell, or the first refusal (06-103r4, 6.1.15.2)
abbrev pub relate_outcome : MatrixOf → List ℕ → List ℕ → Result (List ℕ) Failure
relate_outcome matrix first second = and_then (relation matrix first second) (λ m. Ok (relate_text m))

-- relating two texts may end like this
pub record RelateEnds (first second : List ℕ) (end : End) (old new : Option (List ℕ)) (before after : ℕ) : Type 0 where
  pub answers : ByEveryMatrix (λ matrix. Answers (relate_outcome matrix first second) end old new)
  pub failures : after ≡ failed_writes before end

-- ---- pairs

-- how a command ends by what a run over pairs returns: that a pair is refused is a failure, as it has a status
abbrev pub end_of : Result Pairs Failure → End
end_of (Ok pairs.AllRelated) = Ok tt
end_of (Ok pairs.SomeRefused) = Err f.PairsRefused
end_of (Err failure) = Err failure

-- relating the pairs of a text may end like this
pub record PairsEnds (known : Option (List ℕ)) (end : End) (old new : Option (List ℕ)) (before after : ℕ) : Type 0 where
  pub result : Result Pairs Failure
  pub records : List Record
  pub read : AreRead known records
  pub relates : ByEveryMatrix (λ matrix. RelatesPairs matrix records result old new)
  pub failures : CountsWrites result before after
  pub ended : end ≡ end_of result

-- ---- fault

-- a text explains the fault whose code words have, or lists all codes where there is no word
abbrev pub Explains : List (List ℕ) → List ℕ → Type 0
Explains [] text = ListsCodes text
Explains (word ∷ more) text = (found : FaultCode) × IsLastOf (word ∷ more) found × IsPageOf found text

-- why no text explains a fault: the words have no code, or memory ran out
abbrev pub IsUnexplained : List (List ℕ) → Failure → Type 0
IsUnexplained words f.UnknownCode = (words ≢ []) × HaveNoCode words
IsUnexplained words f.OutOfMemory = ⊤
IsUnexplained words _ = ⊥

-- the text that explains a fault was written, or a beginning of it; or the words have no code, or memory ran out, and nothing was written
abbrev pub ShowsPage : List (List ℕ) → End → Option (List ℕ) → Option (List ℕ) → Type 0
ShowsPage words (Ok done) old new = (text : List ℕ) × Explains words text × Appends old new text
ShowsPage words (Err f.WriteFailed) old new = (text : List ℕ) × Explains words text × AppendsFront old new text
ShowsPage words (Err f.UnknownCode) old new = (words ≢ []) × HaveNoCode words × Keeps old new
ShowsPage words (Err f.OutOfMemory) old new = Keeps old new
ShowsPage words (Err failure) old new = ⊥

-- explaining a fault may end like this
pub record FaultEnds (words : List (List ℕ)) (end : End) (old new : Option (List ℕ)) (before after : ℕ) : Type 0 where
  pub page : ShowsPage words end old new
  pub failures : after ≡ failed_writes before end

-- the sink of the answer, before and after a command
module _ {S : Type 0} (taken : S → Option (List ℕ)) (failures : S → ℕ) (old new : S) where
  -- explaining a fault ends so
  abbrev pub ExplainsFault : List (List ℕ) → End → Type 0
  ExplainsFault words end = FaultEnds words end (taken old) (taken new) (failures old) (failures new)

module _ {R S M : Type 0} (remaining : R → Option (List ℕ)) (taken : S → Option (List ℕ)) (failures : S → ℕ) (old new : S)
    (mtaken : M → Option (List ℕ)) (mfailures : M → ℕ) (mold mnew : M) where
  -- relating the pairs of a reader ends so, and perhaps they are noted; no reader is there where the file can't be opened, and then nothing is
  -- written
  abbrev pub RelatesReader : Option R → End → Type 0
  RelatesReader None (Ok done) = ⊥
  RelatesReader None (Err failure) = IsUnreadable (codes "pairs") failure × (new ≡ old) × (mnew ≡ mold)
  RelatesReader (Some reader) end =
      PairsEnds (remaining reader) end (taken old) (taken new) (failures old) (failures new)
      × MayNotePairs mtaken mfailures mold mnew (remaining reader) end

-- the sink of the answer and that of explanations, before and after a command
module _ {F R S M : Type 0} (opens : Opening F R) (remaining : R → Option (List ℕ)) (taken : S → Option (List ℕ)) (failures : S → ℕ) (old new : S)
    (mtaken : M → Option (List ℕ)) (mfailures : M → ℕ) (mold mnew : M) where
  -- relating the geometries that two words give ends so, and perhaps what explains that one is refused is written
  abbrev pub RelatesWords : F → List ℕ → List ℕ → End → Type 0
  RelatesWords =
      OverTexts opens remaining
      (λ first second end. RelateEnds first second end (taken old) (taken new) (failures old) (failures new)
      × MayExplainTexts mtaken mfailures mold mnew first second end)
      ((new ≡ old) × (mnew ≡ mold))

  -- and relating the pairs of the file at a path, which perhaps are noted
  abbrev pub RelatesFile : F → List ℕ → End → Type 0
  RelatesFile opener path end =
      (file : Option R) × (next : F) × opens role.Pairs opener path file next
      × RelatesReader remaining taken failures old new mtaken mfailures mold mnew file end
