-- What holds of a result by two facts.
use Rattle.std.proofs.Common.{Result, Ok, Err}
use Rattle.std.specs.Prelude.{IfOk}

-- two facts of the value give a third
pub by_both : {A E : Type 0} (r : Result A E) (P Q R : A → Type 0) → ((a : A) → P a → Q a → R a) → IfOk r P → IfOk r Q → IfOk r R
by_both (Ok a) P Q R gives first second = gives a first second
by_both (Err e) P Q R gives first second = tt
