-- The names before this one were put; this one, or a front of it, comes after them.
use Rattle.std.proofs.Common.{◌++◌, codes, length, ◌<◌, arith, ap, ◌∙◌}
use Rattle.streams.proofs.PartLemmas.{text-front, text-put}
use Rattle.streams.proofs.SinkLemmas.{OnErr-holds}
use Rattle.sfq_tiles.proofs.listing.put_names.Goals as goal

pub loop-part-preserved : goal.loop-part-preserved
loop-part-preserved g c =
    let within : c.loop-part.part-index < length c.args.parts.now = omega arith in
    record {
      put = text-put (λ part. codes "," ++ part.name.now) c.args.parts.now c.loop-part.part-index c.part-item.result (codes "," ++ c.part-item.result.name.now) _ (g.S.Sink.taken c.loop-part.out) _ within
          (ap (λ part. codes "," ++ part.name.now) c.part-item.is) c.loop-part.invariant.put c.in_ok-put_name.ensures.ok;
      same = c.in_ok-put_name.ensures.failures ∙ c.loop-part.invariant.same;
    }

pub returns-in_err-put_name-clause-front : goal.returns-in_err-put_name-clause-front
returns-in_err-put_name-clause-front g c =
    let within : c.loop-part.part-index < length c.args.parts.now = omega arith in
    OnErr-holds c.from_residual.result
    (text-front (λ part. codes "," ++ part.name.now) c.args.parts.now c.loop-part.part-index c.part-item.result (codes "," ++ c.part-item.result.name.now) _ (g.S.Sink.taken c.loop-part.out) _ within
    (ap (λ part. codes "," ++ part.name.now) c.part-item.is) c.loop-part.invariant.put c.in_err-put_name.ensures.front)
