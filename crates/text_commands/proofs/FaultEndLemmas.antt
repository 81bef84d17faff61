-- How explaining a fault ends, by the words.
use Rattle.std.proofs.Common.{ℕ, List, [], ◌∷◌, Option, Err, arith, refl}
use Rattle.std.proofs.KnownBytes.{Keeps-refl}
use Rattle.failures.specs.declared.failure.Failure.{Failure}
use Rattle.failures.specs.declared.failure.Failure.TheVariants as f
use Rattle.text_commands.specs.FaultPages.{IsLastOf, IsPageOf}
use Rattle.text_commands.specs.TextCommands.{Explains, FaultEnds, IsUnexplained}
use Rattle.text_commands.specs.declared.fault_codes.FaultCode.{FaultCode}

-- the page of the last code of words explains them
pub page-explains : (words : List (List ℕ)) (text : List ℕ) → ((found : FaultCode) × IsLastOf words found × IsPageOf found text)
    → Explains words text
page-explains [] text page = absurd (omega (arith, page.1.1))
page-explains (word ∷ more) text page = page

-- a failure that explains nothing ends with nothing written
pub unexplained : (words : List (List ℕ)) (failure : Failure) (kept : Option (List ℕ)) (count : ℕ) → IsUnexplained words failure
    → FaultEnds words (Err failure) kept kept count count
unexplained words f.UnknownCode kept count why = record { page = (why.0, why.1, Keeps-refl kept); failures = refl }
unexplained words f.OutOfMemory kept count why = record { page = Keeps-refl kept; failures = refl }
unexplained words _ kept count why = absurd why
