-- The numbers before this one were put; this one, or a front of it, comes after them.
use Rattle.std.proofs.Common.{◌++◌, codes, length, ◌<◌, arith, ◌∙◌}
use Rattle.table_model.specs.ExplainTexts.{conjunct_number}
use Rattle.streams.proofs.PartLemmas.{parts-front, parts-put}
use Rattle.explain.proofs.PutLemmas.{puts-failed}
use Rattle.explain.proofs.filter_line.put_places.Goals as goal

pub returns-in_err-put_place : goal.returns-in_err-put_place
returns-in_err-put_place g c =
    let within : c.loop-place.place-index < length c.args.places.now = omega arith in
    puts-failed c.from_residual.result _ _ c.from_residual.ensures.1
    (parts-front (λ k. codes " " ++ conjunct_number k) c.args.places.now c.loop-place.place-index _ _
    (g.S.Sink.taken c.loop-place.sink) _ within c.loop-place.invariant.put c.in_err-put_place.ensures.front)
    c.loop-place.invariant.same c.in_err-put_place.ensures.failures

pub loop-place-preserved : goal.loop-place-preserved
loop-place-preserved g c = record {
  put =
      let within : c.loop-place.place-index < length c.args.places.now = omega arith in
      parts-put (λ k. codes " " ++ conjunct_number k) c.args.places.now c.loop-place.place-index _ _ (g.S.Sink.taken c.loop-place.sink) _ within c.loop-place.invariant.put c.in_ok-put_place.ensures.ok;
  same = c.in_ok-put_place.ensures.failures ∙ c.loop-place.invariant.same;
}
