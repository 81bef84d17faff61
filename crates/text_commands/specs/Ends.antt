-- How a command ends, by its steps.
use Rattle.std.specs.Prelude.{◌≡◌, ℕ, List, Option, Result, Ok, Err}
use Rattle.std.specs.Io.KnownBytes.{Appends, Keeps}
use Rattle.basics.specs.Counts.{one_more}
use Rattle.streams.specs.Sinks.{AppendsFront}
use Rattle.failures.specs.Ends.{End, Reports, end_status}
use Rattle.failures.specs.declared.failure.Failure.{Failure}
use Rattle.failures.specs.declared.failure.Failure.TheVariants as f

-- how often the sink of the answer failed: once more where the answer can't be written
abbrev pub failed_writes : ℕ → End → ℕ
failed_writes before (Err f.WriteFailed) = one_more before
failed_writes before _ = before

-- what was written of an outcome, which is a text or a failure: the text if the command is done, a beginning of it if it can't be
-- written, else nothing
abbrev pub Answers : Result (List ℕ) Failure → End → Option (List ℕ) → Option (List ℕ) → Type 0
Answers outcome (Ok done) old new = (text : List ℕ) × (outcome ≡ Ok text) × Appends old new text
Answers outcome (Err f.WriteFailed) old new = (text : List ℕ) × (outcome ≡ Ok text) × AppendsFront old new text
Answers outcome (Err f.OutOfMemory) old new = Keeps old new
Answers outcome (Err failure) old new = (outcome ≡ Err failure) × Keeps old new

-- a text was written of which nothing else is asked: all of it, and the command is done; or a beginning of it, as the sink failed once
abbrev pub PutsText : {S : Type 0} → (S → Option (List ℕ)) → (S → ℕ) → S → S → List ℕ → End → Type 0
PutsText taken failures old new text (Ok done) = Appends (taken old) (taken new) text × (failures new ≡ failures old)
PutsText taken failures old new text (Err f.WriteFailed) = AppendsFront (taken old) (taken new) text × (failures new ≡ one_more (failures old))
PutsText taken failures old new text (Err failure) = ⊥

-- what a command promises that may end in these ways: it returns the status of one of them, and standard error has its line
pub record Serves {E : Type 0} (taken : E → Option (List ℕ)) (failures : E → ℕ) (Ends : End → Type 0) (status : ℕ) (old new : E) : Type 0 where
  pub end : End
  pub ends : Ends end
  pub returned : status ≡ end_status end
  pub reported : Reports taken failures end old new

-- the rest of a command after a step: it goes on with what the step gave, or ends in the failure of the step and has written nothing
abbrev pub Then : {X : Type 0} → Result X Failure → (X → Type 0) → End → Type 0 → Type 0
Then (Ok x) Rest end Nothing = Rest x
Then (Err failure) Rest end Nothing = (end ≡ Err failure) × Nothing
