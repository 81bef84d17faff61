use Rattle.std.proofs.Common.{◌≡◌, length, map}
use Rattle.table_model.specs.Tokens.{kind_in, word_kind}
use Rattle.sql_text.proofs.lex.word_kind.Given as goal

abbrev pub invariant-loop-table : goal.invariant-loop-table
invariant-loop-table l = kind_in (map (λ r. (r.0.now, r.1)) l.table) l.word ≡ word_kind l.word

abbrev pub decreases-loop-table : goal.decreases-loop-table
decreases-loop-table l = length l.table
