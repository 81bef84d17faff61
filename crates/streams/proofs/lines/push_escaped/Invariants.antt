use Rattle.std.proofs.Common.{◌≡◌, ◌++◌, take}
use Rattle.csv.specs.Writing.{default_writer, escaped}
use Rattle.streams.proofs.lines.push_escaped.Given as goal

-- the bytes so far are added
abbrev pub invariant-loop-byte : goal.invariant-loop-byte
invariant-loop-byte l = l.line.items ≡ l.fn.line.items ++ escaped default_writer (take l.byte-index l.field)
