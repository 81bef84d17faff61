-- The parts before this one were put; this one, or a front of it, comes after them.
use Rattle.std.proofs.Common.{length, ◌<◌, arith, ◌∙◌}
use Rattle.streams.proofs.SinkLemmas.{OnErr-holds}
use Rattle.streams.proofs.PartLemmas.{parts-front, parts-put}
use Rattle.streams.proofs.sink.put_parts.Goals as goal

pub returns-in_err-put_all-clause-front : goal.returns-in_err-put_all-clause-front
returns-in_err-put_all-clause-front g c =
    let within : c.loop-part.part-index < length c.args.parts.now = omega arith in
    OnErr-holds c.from_residual.result
    (parts-front (λ p. p.now) c.args.parts.now c.loop-part.part-index _ _ (g.S.Sink.taken c.loop-part.sink) _ within c.loop-part.invariant.put c.in_err-put_all.ensures.front)

pub loop-part-preserved : goal.loop-part-preserved
loop-part-preserved g c = record {
  put =
      let within : c.loop-part.part-index < length c.args.parts.now = omega arith in
      parts-put (λ p. p.now) c.args.parts.now c.loop-part.part-index _ _ (g.S.Sink.taken c.loop-part.sink) _ within c.loop-part.invariant.put c.in_ok-put_all.ensures.ok;
  same = c.in_ok-put_all.ensures.failures ∙ c.loop-part.invariant.same;
}
