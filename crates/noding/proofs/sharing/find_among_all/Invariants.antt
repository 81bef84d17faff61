-- The points shared with the edges before this one.
use Rattle.noding.specs.Steps.{AreSharedSoFar, IsAt}
use Rattle.noding.proofs.sharing.find_among_all.Given as goal

abbrev pub invariant-loop-other : goal.invariant-loop-other
invariant-loop-other l = AreSharedSoFar l.edge l.others (IsAt l.others) l.other-index l.points.items
