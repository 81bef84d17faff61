-- The lines of the parts before this one were put; those of this one, or a front of them, come after them.
use Rattle.std.proofs.Common.{length, ◌<◌, arith, ap, ◌∙◌}
use Rattle.streams.proofs.PartLemmas.{text-front, text-put}
use Rattle.streams.proofs.SinkLemmas.{OnErr-holds}
use Rattle.sfq_tiles.specs.Lists.{stretches_text}
use Rattle.sfq_tiles.proofs.listing.put_all_stretches.Goals as goal

pub loop-part-preserved : goal.loop-part-preserved
loop-part-preserved g c =
    let within : c.loop-part.part-index < length c.args.parts.now = omega arith in
    record {
      put = text-put (λ part. stretches_text part.name.now part.counts.items) c.args.parts.now c.loop-part.part-index c.part-item.result (stretches_text c.part-item.result.name.now c.as_slice.result.now) _ (g.S.Sink.taken c.loop-part.out) _ within
          (ap (stretches_text c.part-item.result.name.now) c.as_slice.ensures.value ∙ ap (λ part. stretches_text part.name.now part.counts.items) c.part-item.is) c.loop-part.invariant.put c.in_ok-put_stretches.ensures.ok;
      same = c.in_ok-put_stretches.ensures.failures ∙ c.loop-part.invariant.same;
    }

pub returns-in_err-put_stretches-clause-front : goal.returns-in_err-put_stretches-clause-front
returns-in_err-put_stretches-clause-front g c =
    let within : c.loop-part.part-index < length c.args.parts.now = omega arith in
    OnErr-holds c.from_residual.result
    (text-front (λ part. stretches_text part.name.now part.counts.items) c.args.parts.now c.loop-part.part-index c.part-item.result (stretches_text c.part-item.result.name.now c.as_slice.result.now) _ (g.S.Sink.taken c.loop-part.out) _ within
    (ap (stretches_text c.part-item.result.name.now) c.as_slice.ensures.value ∙ ap (λ part. stretches_text part.name.now part.counts.items) c.part-item.is) c.loop-part.invariant.put c.in_err-put_stretches.ensures.front)
