-- Steps of the readers that pass on a value or add it to a list.
use Rattle.std.specs.Prelude.{Result, Ok, Err}
use Rattle.table_model.specs.declared.faults.QueryFault.TheVariants as fault
use Rattle.table_model.specs.declared.tokens.TokenKind.TheVariants as k
use Rattle.table_model.specs.Parsers.{◌>>◌, pure, expect}
use Rattle.table_model.specs.QueryReading.{Reader}

-- a value, and the right parenthesis after what it was read from
abbrev pub closed : {A : Type 0} → A → Reader A
closed x = expect fault.Syntax k.RightParenthesis >> pure x

-- the result with its value changed by the function
abbrev pub mapped : {F A B : Type 0} → (A → B) → Result A F → Result B F
mapped f (Ok x) = Ok (f x)
mapped f (Err e) = Err e
