-- What is read of the matches, as words of the definitions.
use Rattle.std.proofs.Common.{◌≡◌, List, [], Option, Some, None, IsSome, IfNone, Result, Ok, Err, IfErr, IsErrAnd, String, true, option_map, refl, sym, ◌∙◌, ap, subst}
use Rattle.std.specs.Option.{unwrap_or}
use Rattle.std.specs.String.{string_bytes}
use Rattle.clap.specs.Simple.{is_simple}
use Rattle.clap.specs.Words.{Text, first_of, first_value, is_simple_and_free, matched_of, raw_values, rows_of}
use Rattle.clap.specs.declared.error.Error.{Error}
use Rattle.clap.proofs.OnLiterals.{clap_on_literals}
use Rattle.command_line.specs.CommandWords.{sfq}
use Rattle.command_line.specs.Orders.{given_words}
use Rattle.command_line.specs.declared.misuse.Misuse.{Misuse}
use Rattle.clap.specs.declared.parser.matches.Found.{Found}
use Rattle.clap.proofs.WalkLemmas.{first_value-rows, raw_values-rows}

-- the text read of a name is the word of that name
pub first_of-text : {Z : Type 0} (f : Found) (id : Text) (o : Option (String Z)) (s : String Z)
    → option_map string_bytes o ≡ first_value f id → o ≡ Some s → first_of id (rows_of f) ≡ Some (string_bytes s)
first_of-text f id o s read is = sym (first_value-rows f id) ∙ sym read ∙ ap (option_map string_bytes) is

-- what holds of `clap`'s error holds of the misuse that keeps it
pub misuse-keeps : {T : Type 0} (r : Result T Misuse) (e : Error) (P : Error → Type 0)
    → IsErrAnd r (λ m. m.error ≡ e) → P e → IfErr r (λ m. P m.error)
misuse-keeps (Ok o) e P made fact = tt
misuse-keeps (Err m) e P made fact = subst P (sym made) fact

-- the commands of `sfq` are simple, and no word has a rule on another
pub sfq-free : is_simple_and_free sfq ≡ true
unfolding clap_on_literals
sfq-free = refl

-- and the matches are those of the definition
pub sfq-simple : is_simple sfq ≡ true
unfolding clap_on_literals
sfq-simple = refl

-- where nothing is returned, what nothing denies isn't there
pub none-there : {X : Type 0} (o : Option X) (P : Type 0) → o ≡ None → IfNone o (P → ⊥) → P → ⊥
none-there None P is denied there = denied there
none-there (Some x) P is denied there = cc

-- the words that are read of a name are those that are given
pub words-given : (f : Found) (id : Text) (read : Option (List Text)) → read ≡ option_map raw_values (matched_of f id)
    → unwrap_or read [] ≡ given_words id (rows_of f)
words-given f id read is = ap (λ (words : Option (List Text)). unwrap_or words []) (is ∙ raw_values-rows f id)

-- a text that isn't read is no word
pub first_of-none : {Z : Type 0} (f : Found) (id : Text) (o : Option (String Z))
    → option_map string_bytes o ≡ first_value f id → o ≡ None → IsSome (first_of id (rows_of f)) → ⊥
first_of-none f id o read is there =
    let none : first_of id (rows_of f) ≡ None = sym (first_value-rows f id) ∙ sym read ∙ ap (option_map string_bytes) is in
    cc
