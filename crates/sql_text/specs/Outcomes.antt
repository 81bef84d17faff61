-- What a reader returns whose values differ in form from those of the definitions.
use Rattle.std.specs.Prelude.{◌≡◌, ◌≢◌, List, Result, Ok, Err}
use Rattle.table_model.specs.Parsers.{Outcome}
use Rattle.table_model.specs.declared.tokens.Token.{Token}

-- what was read, seen through `view`, and the tokens left are those of the outcome, unless memory ran out
abbrev pub ReadsAs : {F X Y : Type 0} → F → (X → Y) → Outcome F Y → Result X F → List Token → Type 0
ReadsAs memory view outcome (Ok x) new = outcome ≡ Ok (view x, new)
ReadsAs memory view outcome (Err e) new = e ≢ memory → outcome ≡ Err e
