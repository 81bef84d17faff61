-- The fields of the parts before this one were put; that of this one, or a front of it, comes after them.
use Rattle.std.proofs.Common.{◌++◌, codes, decimal, length, ◌<◌, arith, ap, ◌∙◌}
use Rattle.std.specs.List.{slice_index_or}
use Rattle.streams.proofs.PartLemmas.{text-front, text-put}
use Rattle.streams.proofs.SinkLemmas.{OnErr-holds}
use Rattle.sfq_tiles.proofs.listing.put_rows.Goals as goal

pub loop-part-preserved : goal.loop-part-preserved
loop-part-preserved g c =
    let within : c.loop-part.part-index < length c.args.parts.now = omega arith in
    record {
      put = text-put (λ part. codes "," ++ decimal (slice_index_or part.counts.items c.args.number 0)) c.args.parts.now c.loop-part.part-index c.part-item.result (codes "," ++ decimal c.rows_in.result) _ (g.S.Sink.taken c.loop-part.out) _ within
          (ap (λ n. codes "," ++ decimal n) (c.rows_in.ensures ∙ ap (λ counts. slice_index_or counts c.args.number 0) (c.as_slice.ensures.value ∙ ap (λ part. part.counts.items) c.part-item.is))) c.loop-part.invariant.put c.in_ok-put_field.ensures.ok;
      same = c.in_ok-put_field.ensures.failures ∙ c.loop-part.invariant.same;
    }

pub returns-in_err-put_field-clause-front : goal.returns-in_err-put_field-clause-front
returns-in_err-put_field-clause-front g c =
    let within : c.loop-part.part-index < length c.args.parts.now = omega arith in
    OnErr-holds c.from_residual.result
    (text-front (λ part. codes "," ++ decimal (slice_index_or part.counts.items c.args.number 0)) c.args.parts.now c.loop-part.part-index c.part-item.result (codes "," ++ decimal c.rows_in.result) _ (g.S.Sink.taken c.loop-part.out) _ within
    (ap (λ n. codes "," ++ decimal n) (c.rows_in.ensures ∙ ap (λ counts. slice_index_or counts c.args.number 0) (c.as_slice.ensures.value ∙ ap (λ part. part.counts.items) c.part-item.is))) c.loop-part.invariant.put c.in_err-put_field.ensures.front)
