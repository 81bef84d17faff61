use Rattle.std.proofs.Common.{◌≡◌, ◌+◌, drop}
use Rattle.std.specs.List.{prefix_len}
use Rattle.table_model.specs.Tokens.{is_in_line}
use Rattle.sql_text.proofs.lex.line_length.Given as goal

abbrev pub invariant-loop-at : goal.invariant-loop-at
invariant-loop-at l = l.at + prefix_len is_in_line (drop l.at l.text) ≡ prefix_len is_in_line l.text
