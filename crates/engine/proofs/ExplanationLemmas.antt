-- What is written of a schema's file, by what is written of its text.
use Rattle.std.proofs.Common.{◌≡◌, ℕ, Bool, true, false, refl, inl, inr, List, Option, Some, IfSome, take}
use Rattle.engine.specs.Commands.{ExplainsFile, MayExplainFile, MayExplainSchema}
use Rattle.engine.specs.declared.commands.TheConstants.{SCHEMA_BYTES}
use Rattle.failures.specs.declared.failure.Failure.{Failure}

pub of-file : {R M : Type 0} (remaining : R → Option (List ℕ)) (taken : M → Option (List ℕ)) (failures : M → ℕ) (old new : M)
    (file : Option R) (reader : R) (text : List ℕ) (failure : Failure) → file ≡ Some reader
    → IfSome (remaining reader) (λ bytes. text ≡ take SCHEMA_BYTES bytes) → MayExplainSchema taken failures old new text failure
    → MayExplainFile taken failures old new remaining file failure
of-file remaining taken failures old new file reader text failure is read (inl nothing) = inl nothing
of-file remaining taken failures old new file reader text failure is read (inr e) =
    inr (reader, text, e.0, is, read, e.1, e.2)

-- what is written of it where that may not be asked for
pub asked-of-file : {R M : Type 0} (remaining : R → Option (List ℕ)) (taken : M → Option (List ℕ)) (failures : M → ℕ)
    (old new : M) (file : Option R) (failure : Failure) (why : Bool) → (why ≡ false → new ≡ old)
    → MayExplainFile taken failures old new remaining file failure
    → ExplainsFile taken failures old new why remaining file failure
asked-of-file remaining taken failures old new file failure false unasked said = unasked refl
asked-of-file remaining taken failures old new file failure true unasked said = said
