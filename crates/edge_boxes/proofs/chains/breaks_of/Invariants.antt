use Rattle.edge_boxes.specs.Chains.{AreBreaksTo}
use Rattle.edge_boxes.proofs.chains.breaks_of.Given as goal

-- the breaks before this place are found
abbrev pub invariant-loop-place : goal.invariant-loop-place
invariant-loop-place l = AreBreaksTo l.breaks.items l.edges l.place
