use Rattle.std.proofs.Common.{◌≡◌}
use Rattle.std.specs.List.{flat_map, range_with_len}
use Rattle.std.specs.Io.KnownBytes.{Appends}
use Rattle.sfq_tiles.specs.Lists.{tile_line}
use Rattle.sfq_tiles.proofs.listing.put_tiles.Given as goal

-- the lines before this one were put, and no put has failed
abbrev pub invariant-loop-number : goal.invariant-loop-number
invariant-loop-number g l = record {
  put : Appends (g.S.Sink.taken l.initial.out) (g.S.Sink.taken l.out)
      (flat_map (tile_line l.cells l.parts) (range_with_len 0 l.number));
  same : g.S.Sink.failures l.out ≡ g.S.Sink.failures l.initial.out;
}
