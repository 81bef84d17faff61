use Rattle.std.proofs.Common.{◌≡◌, ◌+◌, drop}
use Rattle.std.specs.List.{prefix_len}
use Rattle.table_model.specs.Tokens.{continues_word}
use Rattle.sfq_tables.proofs.text_parts.word_size.Given as goal

abbrev pub invariant-loop-at : goal.invariant-loop-at
invariant-loop-at l = l.at + prefix_len continues_word (drop l.at l.text) ≡ prefix_len continues_word l.text
