-- How a command ends by its steps, and over the texts of the geometries that two words give.
use Rattle.std.proofs.Common.{◌≡◌, inl, inr, ℕ, List, Option, Result, Ok, Err, refl, subst, sym}
use Rattle.std.specs.Prelude.{IsErrAnd}
use Rattle.failures.specs.declared.failure.Failure.{Failure}
use Rattle.failures.specs.Ends.{End}
use Rattle.text_commands.specs.Files.{Opening}
use Rattle.text_commands.specs.GivenTexts.{GivesBoth, GivesNotBoth}
use Rattle.text_commands.specs.TextCommands.{OverTexts}

-- the failure of a step that is handed on
pub handed-on : {A : Type 0} (r : Result A Failure) (failure : Failure) → IsErrAnd r (λ x. x ≡ failure)
    → (P : Result A Failure → Type 0) → P (Err failure) → P r
handed-on (Ok a) failure is P fact = absurd is
handed-on (Err e) failure is P fact = subst (λ x. P (Err x)) (sym is) fact

module _ {F R : Type 0} (opens : Opening F R) (remaining : R → Option (List ℕ)) (Over : List ℕ → List ℕ → End → Type 0)
    (Nothing : Type 0) (opener : F) (first second : List ℕ) where
  -- both are there
  pub over-both : (one other : List ℕ) (end : End) → GivesBoth opens remaining opener first second one other → Over one other end
      → OverTexts opens remaining Over Nothing opener first second end
  over-both one other end both over = record {
    text = Ok one;
    next = both.0;
    given = both.2;
    rest = record { text = Ok other; next = both.1; given = both.3; rest = over };
  }

  -- one of them isn't
  pub over-not-both : (failure : Failure) → GivesNotBoth opens remaining opener first second failure → Nothing
      → OverTexts opens remaining Over Nothing opener first second (Err failure)
  over-not-both failure (inl given) nothing =
      record { text = Err failure; next = given.0; given = given.1; rest = (refl, nothing) }
  over-not-both failure (inr given) nothing = record {
    text = Ok given.2;
    next = given.0;
    given = given.3;
    rest = record { text = Err failure; next = given.1; given = given.4; rest = (refl, nothing) };
  }
