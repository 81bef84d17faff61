use Rattle.std.proofs.Common.{◌≡◌, Some, take}
use Rattle.rtree.specs.Joins.{joined_all}
use Rattle.rtree.proofs.packing.around.Given as goal

-- the envelope of the envelopes so far
abbrev pub invariant-loop-place : goal.invariant-loop-place
invariant-loop-place l = Some l.all ≡ joined_all (take l.place l.envelopes)
