use Rattle.std.proofs.Common.{◌≡◌, ◌≤◌, ◌+◌, drop, true, false}
use Rattle.table_model.specs.Tokens.{closing}
use Rattle.sql_text.proofs.lex.closing.Given as goal

abbrev pub invariant-loop-at : goal.invariant-loop-at
invariant-loop-at l = (closing (l.at + 1) l.after_quote (drop l.at l.rest) ≡ closing 1 false l.rest) × (l.after_quote ≡ true → 1 ≤ l.at)
