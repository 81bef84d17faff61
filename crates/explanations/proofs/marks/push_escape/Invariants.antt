-- What was added, and what is left of the byte's escape, are the whole of it.
use Rattle.std.proofs.Common.{◌≡◌, ◌++◌, ◌≤◌}
use Rattle.std.specs.Char.Escape.{escape_ascii}
use Rattle.std.specs.Char.Iter.{escape_byte_end, escape_byte_rest}
use Rattle.explanations.proofs.marks.push_escape.Given as goal

abbrev pub invariant-loop-escaped : goal.invariant-loop-escaped
invariant-loop-escaped l = record {
  text : l.text.items ++ escape_byte_rest l.rest ≡ l.fn.text.items ++ escape_ascii l.byte;
  bound : escape_byte_end l.rest ≤ 4;
}
