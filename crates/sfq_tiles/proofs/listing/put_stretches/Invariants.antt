use Rattle.std.proofs.Common.{◌≡◌, ◌+◌}
use Rattle.std.specs.List.{flat_map, range_with_len, slice_index_or}
use Rattle.std.specs.Io.KnownBytes.{Appends}
use Rattle.sfq_tiles.specs.Lists.{stretch_line}
use Rattle.sfq_tiles.proofs.listing.put_stretches.Given as goal

-- the lines before this one were put, and no put has failed
abbrev pub invariant-loop-place : goal.invariant-loop-place
invariant-loop-place g l = record {
  put : Appends (g.S.Sink.taken l.initial.out) (g.S.Sink.taken l.out)
      (flat_map (λ place. stretch_line l.name (place + 1) (slice_index_or l.counts place 0)) (range_with_len 0 l.place));
  same : g.S.Sink.failures l.out ≡ g.S.Sink.failures l.initial.out;
}
