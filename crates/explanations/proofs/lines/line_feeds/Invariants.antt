-- The line feeds so far.
use Rattle.std.proofs.Common.{◌≡◌, ◌≤◌, take}
use Rattle.std.specs.List.{count_by}
use Rattle.explanations.specs.Lines.{ends_line}
use Rattle.explanations.proofs.lines.line_feeds.Given as goal

abbrev pub invariant-loop-byte : goal.invariant-loop-byte
invariant-loop-byte l = record {
  count : l.count ≡ count_by ends_line (take l.byte-index l.bytes);
  few : l.count ≤ l.byte-index;
}
