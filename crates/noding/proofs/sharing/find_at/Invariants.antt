-- The points shared with the edges at the places before this one.
use Rattle.noding.specs.Steps.{AreSharedSoFar, IsAtPlace}
use Rattle.noding.proofs.sharing.find_at.Given as goal

abbrev pub invariant-loop-place : goal.invariant-loop-place
invariant-loop-place l = AreSharedSoFar l.edge l.others (IsAtPlace l.others l.places) l.place-index l.points.items
