-- How a program ends, and what it returns and writes then.
use Rattle.std.specs.Prelude.{◌≡◌, ◌⊎◌, ℕ, List, Option, Result, Ok, Err}
use Rattle.std.specs.Io.KnownBytes.{Appends}
use Rattle.basics.specs.Counts.{one_more}
use Rattle.streams.specs.Sinks.{AppendsFront}
use Rattle.failures.specs.Failures.{failure_line, failure_status}
use Rattle.failures.specs.declared.failure.Failure.{Failure}
use Rattle.failures.specs.declared.failure.Failure.TheVariants as f

-- how a command ends: done, or in a failure
abbrev pub End : Type 0
End = Result (Unit {0}) Failure

-- the status of a command: 0 where it is done, else that of its failure
abbrev pub end_status : End → ℕ
end_status (Ok done) = 0
end_status (Err failure) = failure_status failure

-- a status at which standard output may hold an answer: done, or pairs of which one is refused
abbrev pub IsAnswered : ℕ → Type 0
IsAnswered status = (status ≡ 0) ⊎ (status ≡ failure_status f.PairsRefused)

-- a text was written: all of it, unless the sink failed once; then a beginning of it
abbrev pub Writes : Option (List ℕ) → Option (List ℕ) → ℕ → ℕ → List ℕ → Type 0
Writes old new before after text = (Appends old new text × (after ≡ before)) ⊎ (AppendsFront old new text × (after ≡ one_more before))

-- what is written to standard error: nothing where the command is done, else the line of its failure
abbrev pub Reports : {E : Type 0} → (E → Option (List ℕ)) → (E → ℕ) → End → E → E → Type 0
Reports taken failures (Ok done) old new = new ≡ old
Reports taken failures (Err failure) old new = Writes (taken old) (taken new) (failures old) (failures new) (failure_line failure)
