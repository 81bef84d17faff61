use Rattle.std.proofs.Common.{◌≡◌, ◌++◌, map, take, codes, decimal}
use Rattle.std.specs.List.{concat, slice_index_or}
use Rattle.std.specs.Io.KnownBytes.{Appends}
use Rattle.sfq_tiles.proofs.listing.put_rows.Given as goal

-- the fields of the parts before this one were put, and no put has failed
abbrev pub invariant-loop-part : goal.invariant-loop-part
invariant-loop-part g l = record {
  put : Appends (g.S.Sink.taken l.initial.out) (g.S.Sink.taken l.out)
      (concat (map (λ part. codes "," ++ decimal (slice_index_or part.counts.items l.number 0)) (take l.part-index l.parts)));
  same : g.S.Sink.failures l.out ≡ g.S.Sink.failures l.initial.out;
}
