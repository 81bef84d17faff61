use Rattle.std.proofs.Common.{◌≡◌, ◌≤◌, ◌++◌, ◌-◌, length, drop}
use Rattle.table_model.specs.Tokens.{tokens_from, tokens}
use Rattle.sql_text.proofs.lex.cut.Given as goal

abbrev pub invariant-loop-at : goal.invariant-loop-at
invariant-loop-at l = record {
  said : l.tokens ++ tokens_from l.strings 0 l.at (drop l.at l.text) ≡ tokens l.strings l.text;
  within : l.at ≤ length l.text;
}

abbrev pub decreases-loop-at : goal.decreases-loop-at
decreases-loop-at l = length l.text - l.at
