-- What a command is that gets a word or a subcommand.
use Rattle.std.proofs.Common.{◌≡◌, Result, Ok, Err, IfOk, IsOkAnd, Bool, true, false, not, ◌&&◌, refl, sym, ◌∙◌, ap, ap₂}
use Rattle.clap.specs.Words.{AddsArg, AddsSubcommand, App, Rule, app_of, rule_of, with_rule, with_subcommand}
use Rattle.clap.specs.declared.builder.arg.Arg.{Arg}
use Rattle.clap.specs.declared.builder.command.Command.{Command}

-- a command of plain shape has no global argument
plain-third : (a b c d : Bool) → (a && (b && (not c && d))) ≡ true → c ≡ false
plain-third a b true d e = cases a b e
  where
    cases : (a b : Bool) → (a && (b && false)) ≡ true → true ≡ false
    cases true true e = sym e
    cases true false e = sym e
    cases false b e = sym e
plain-third a b false d e = refl

-- a command that gets a word has one more rule, that of the word
pub word-added : (old new : Command) (word : Arg) (a : App) (r : Rule) → app_of old ≡ a → word.global ≡ false → rule_of word ≡ r
    → AddsArg old word new → app_of new ≡ with_rule a r
word-added old new word a r old_is local rule_is added = added.shape local ∙ ap₂ with_rule old_is rule_is

-- a command that gets a subcommand of plain shape has one more subcommand, of that shape
pub subcommand-added : {E : Type 0} (made : Result Command E) (old new : Command) (a s : App) → s.top.is_plain ≡ true → app_of old ≡ a
    → IfOk made (λ sub. app_of sub ≡ s) → IsOkAnd made (λ sub. AddsSubcommand old sub new) → app_of new ≡ with_subcommand a s.top
subcommand-added (Ok sub) old new a s plain old_is sub_is added =
    let local = plain-third _ _ _ _ (ap (λ (x : App). x.top.is_plain) sub_is ∙ plain) in
    added.shape local ∙ ap₂ with_subcommand old_is (ap (λ (x : App). x.top) sub_is)
subcommand-added (Err e) old new a s plain old_is sub_is added = absurd added
