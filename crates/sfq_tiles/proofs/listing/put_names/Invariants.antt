use Rattle.std.proofs.Common.{◌≡◌, ◌++◌, map, take, codes}
use Rattle.std.specs.List.{concat}
use Rattle.std.specs.Io.KnownBytes.{Appends}
use Rattle.sfq_tiles.proofs.listing.put_names.Given as goal

-- the names before this one were put, and no put has failed
abbrev pub invariant-loop-part : goal.invariant-loop-part
invariant-loop-part g l = record {
  put : Appends (g.S.Sink.taken l.initial.out) (g.S.Sink.taken l.out) (concat (map (λ part. codes "," ++ part.name.now) (take l.part-index l.parts)));
  same : g.S.Sink.failures l.out ≡ g.S.Sink.failures l.initial.out;
}
