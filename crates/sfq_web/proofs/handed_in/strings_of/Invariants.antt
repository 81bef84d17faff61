-- What is cut so far, and what the rest is cut into, are the pieces of the whole.
use Rattle.std.proofs.Common.{◌≡◌, ◌++◌, Bor, List, drop, map, ℕ}
use Rattle.sfq_web.specs.Pieces.{pieces}
use Rattle.sfq_web.proofs.handed_in.strings_of.Given as goal

abbrev pub invariant-loop-length : goal.invariant-loop-length
invariant-loop-length l = record {
  cut : map (λ (piece : Bor (List ℕ)). piece.now) l.all.items ++ pieces l.rest (drop l.length-index l.lengths) ≡ pieces
      l.fn.text l.fn.lengths;
}
