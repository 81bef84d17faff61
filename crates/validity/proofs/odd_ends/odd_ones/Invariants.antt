use Rattle.validity.proofs.OddEndFacts.{IsKeptOdd}
use Rattle.validity.proofs.odd_ends.odd_ones.Given as goal

-- those of the positions before this one
abbrev pub invariant-loop-position : goal.invariant-loop-position
invariant-loop-position l = IsKeptOdd l.found.items l.given l.position-index
