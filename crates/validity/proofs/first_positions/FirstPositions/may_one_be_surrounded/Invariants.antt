-- No position that an edge before this one faces is inside.
use Rattle.validity.proofs.Rays.{ArePassed}
use Rattle.validity.proofs.first_positions.FirstPositions.may_one_be_surrounded.Given as goal

abbrev pub invariant-loop-edge : goal.invariant-loop-edge
invariant-loop-edge l = ArePassed l.self.0 l.edges l.self.1 l.own l.edge-index
