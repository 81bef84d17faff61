use Rattle.std.proofs.Common.{◌≡◌, map, take}
use Rattle.std.specs.List.{concat}
use Rattle.std.specs.Io.KnownBytes.{Appends}
use Rattle.sfq_tiles.specs.Lists.{stretches_text}
use Rattle.sfq_tiles.proofs.listing.put_all_stretches.Given as goal

-- the lines of the parts before this one were put, and no put has failed
abbrev pub invariant-loop-part : goal.invariant-loop-part
invariant-loop-part g l = record {
  put : Appends (g.S.Sink.taken l.initial.out) (g.S.Sink.taken l.out)
      (concat (map (λ part. stretches_text part.name.now part.counts.items) (take l.part-index l.parts)));
  same : g.S.Sink.failures l.out ≡ g.S.Sink.failures l.initial.out;
}
