-- No edge at a place before this one shares a point with the edge.
use Rattle.validity.proofs.ApartRings.{ArePassed}
use Rattle.validity.proofs.apart.shares_near.Given as goal

abbrev pub invariant-loop-place : goal.invariant-loop-place
invariant-loop-place l = ArePassed l.edges l.edge l.from l.near l.place-index
