use Rattle.std.proofs.Common.{◌≡◌, map, take}
use Rattle.std.specs.List.{concat}
use Rattle.std.specs.Io.KnownBytes.{Appends}
use Rattle.streams.proofs.sink.put_parts.Given as goal

-- the parts before this one were put, and no put has failed
abbrev pub invariant-loop-part : goal.invariant-loop-part
invariant-loop-part g l = record {
  put : Appends (g.S.Sink.taken l.initial.sink) (g.S.Sink.taken l.sink) (concat (map (λ p. p.now) (take l.part-index l.parts)));
  same : g.S.Sink.failures l.sink ≡ g.S.Sink.failures l.initial.sink;
}
