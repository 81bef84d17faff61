-- The tokens are those of the definition, of which the law holds.
use Rattle.std.proofs.Common.{◌≡◌, ℕ, Bool, List, Result, Ok, Err, IfOk, sym, subst}
use Rattle.std.specs.List.{AllByRecursion}
use Rattle.table_model.specs.declared.tokens.Token.{Token}
use Rattle.table_model.specs.Tokens.{tokens, IsSlice}
use Rattle.sql_text.proofs.TokenSlices.{tokens_slices}
use Rattle.sql_text.proofs.lex.lex.Goals as goal

slices_of : {E : Type 0} (strings : Bool) (text : List ℕ) (r : Result (List Token) E) → IfOk r (λ ts. ts ≡ tokens strings text) → IfOk r (λ ts. AllByRecursion (IsSlice text) ts)
slices_of strings text (Ok ts) e = subst (AllByRecursion (IsSlice text)) (sym e) (tokens_slices strings text)
slices_of strings text (Err e) h = tt

pub returns-clause-slices : goal.returns-clause-slices
returns-clause-slices c = slices_of c.args.strings c.args.text.now c.cut.result c.cut.ensures
