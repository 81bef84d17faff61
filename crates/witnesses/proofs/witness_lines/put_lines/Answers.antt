-- The lines before this one were put; this one, or a beginning of it, comes after them.
use Rattle.std.proofs.Common.{length, ◌<◌, arith, ◌∙◌}
use Rattle.streams.proofs.SinkLemmas.{OnErr-holds}
use Rattle.streams.proofs.PartLemmas.{parts-front, parts-put}
use Rattle.witnesses.specs.Shown.{witness_at}
use Rattle.witnesses.specs.WitnessTexts.{witness_line}
use Rattle.witnesses.proofs.witness_lines.put_lines.Goals as goal

pub returns-in_err-put_line-clause-front : goal.returns-in_err-put_line-clause-front
returns-in_err-put_line-clause-front g c =
    let within : c.loop-part.part-index < length c.args.parts.now = omega arith in
    OnErr-holds c.from_residual.result
    (parts-front (λ k. witness_line c.args.first k (witness_at c.args.witnesses.now c.args.first k)) c.args.parts.now c.loop-part.part-index _ _ (g.S.Sink.taken c.loop-part.sink) _ within c.loop-part.invariant.put
    c.in_err-put_line.ensures.front)

pub loop-part-preserved : goal.loop-part-preserved
loop-part-preserved g c = record {
  put =
      let within : c.loop-part.part-index < length c.args.parts.now = omega arith in
      parts-put (λ k. witness_line c.args.first k (witness_at c.args.witnesses.now c.args.first k)) c.args.parts.now c.loop-part.part-index _ _ (g.S.Sink.taken c.loop-part.sink) _ within c.loop-part.invariant.put
      c.in_ok-put_line.ensures.ok;
  same = c.in_ok-put_line.ensures.failures ∙ c.loop-part.invariant.same;
}
