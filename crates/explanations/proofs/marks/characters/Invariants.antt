-- What was counted so far.
use Rattle.std.proofs.Common.{◌≡◌, take}
use Rattle.explanations.specs.Marks.{characters}
use Rattle.explanations.proofs.marks.characters.Given as goal

abbrev pub invariant-loop-byte : goal.invariant-loop-byte
invariant-loop-byte l = l.count ≡ characters (take l.byte-index l.text)
