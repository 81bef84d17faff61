use Rattle.std.proofs.Common.{◌≡◌, ◌++◌, map, take, codes}
use Rattle.std.specs.List.{concat}
use Rattle.std.specs.Io.KnownBytes.{Appends}
use Rattle.table_model.specs.ExplainTexts.{conjunct_number}
use Rattle.explain.proofs.filter_line.put_places.Given as goal

-- the numbers before this one were put, and no put has failed
abbrev pub invariant-loop-place : goal.invariant-loop-place
invariant-loop-place g l = record {
  put : Appends (g.S.Sink.taken l.initial.sink) (g.S.Sink.taken l.sink) (concat (map (λ k. codes " " ++ conjunct_number k) (take l.place-index l.places)));
  same : g.S.Sink.failures l.sink ≡ g.S.Sink.failures l.initial.sink;
}
