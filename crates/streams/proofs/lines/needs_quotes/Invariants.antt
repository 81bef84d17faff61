use Rattle.std.proofs.Common.{◌≡◌, take}
use Rattle.csv.specs.Writing.{default_writer, needs_quotes}
use Rattle.streams.proofs.lines.needs_quotes.Given as goal

-- the test of the bytes so far
abbrev pub invariant-loop-byte : goal.invariant-loop-byte
invariant-loop-byte l = l.needs ≡ needs_quotes default_writer (take l.byte-index l.field)
