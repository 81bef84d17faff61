use Rattle.std.proofs.Common.{map, take}
use Rattle.sfq_tiles.specs.Words.{AreNamed}
use Rattle.sfq_tiles.proofs.parts.read_parts.Given as goal

-- the parts are those of the words before this one
abbrev pub invariant-loop-word : goal.invariant-loop-word
invariant-loop-word l = AreNamed l.schema (map (λ word. word.now) (take l.word-index l.words)) l.parts.items
