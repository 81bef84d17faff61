-- None of the positions with the numbers before this one is inside.
use Rattle.validity.proofs.Rays.{AreTried}
use Rattle.validity.proofs.first_positions.FirstPositions.may_one_be_inside.Given as goal

abbrev pub invariant-loop-number : goal.invariant-loop-number
invariant-loop-number l = AreTried l.edges l.self.1 l.own l.numbers l.number-index
