use Rattle.std.proofs.Common.{◌≡◌, map, take}
use Rattle.std.specs.List.{concat}
use Rattle.std.specs.Io.KnownBytes.{Appends}
use Rattle.witnesses.specs.Shown.{witness_at}
use Rattle.witnesses.specs.WitnessTexts.{witness_line}
use Rattle.witnesses.proofs.witness_lines.put_lines.Given as goal

-- the lines of the parts before this one were put, and no put has failed
abbrev pub invariant-loop-part : goal.invariant-loop-part
invariant-loop-part g l = record {
  put : Appends (g.S.Sink.taken l.initial.sink) (g.S.Sink.taken l.sink) (concat (map (λ k. witness_line l.first k (witness_at l.witnesses l.first k)) (take l.part-index l.parts)));
  same : g.S.Sink.failures l.sink ≡ g.S.Sink.failures l.initial.sink;
}
