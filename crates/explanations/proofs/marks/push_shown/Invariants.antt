-- The bytes before this one were added.
use Rattle.std.proofs.Common.{◌≡◌, ◌++◌, take}
use Rattle.explanations.specs.Marks.{shown}
use Rattle.explanations.proofs.marks.push_shown.Given as goal

abbrev pub invariant-loop-byte : goal.invariant-loop-byte
invariant-loop-byte l = l.text.items ≡ l.fn.text.items ++ shown l.utf8 (take l.byte-index l.bytes)
