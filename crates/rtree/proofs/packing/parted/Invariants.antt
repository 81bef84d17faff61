use Rattle.std.proofs.Common.{◌≡◌, None, take}
use Rattle.rtree.specs.Found.{meeting_places}
use Rattle.rtree.specs.Packing.{present}
use Rattle.rtree.proofs.packing.parted.Given as goal

-- the envelopes before this one were kept apart
abbrev pub invariant-loop-place : goal.invariant-loop-place
invariant-loop-place l = record {
  absent : l.absent.items ≡ meeting_places (take l.place l.envelopes) None;
  others : l.entries.items ≡ present (take l.place l.envelopes);
}
