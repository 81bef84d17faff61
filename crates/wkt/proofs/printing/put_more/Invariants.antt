use Rattle.std.proofs.Common.{◌≡◌, ◌++◌, map, take}
use Rattle.std.specs.List.{concat}
use Rattle.std.specs.Io.KnownBytes.{Appends}
use Rattle.geometry_model.specs.CanonicalText.{position_text}
use Rattle.wkt.proofs.printing.put_more.Given as goal

-- the points before this one were put, and no put has failed
abbrev pub invariant-loop-point : goal.invariant-loop-point
invariant-loop-point g l = record {
  put : Appends (g.S.Sink.taken l.initial.sink) (g.S.Sink.taken l.sink) (concat (map (λ p. l.before ++ position_text p ++ l.behind) (take l.point-index l.positions)));
  same : g.S.Sink.failures l.sink ≡ g.S.Sink.failures l.initial.sink;
}
