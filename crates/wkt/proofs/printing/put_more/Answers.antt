-- The points before this one were put; this one, or a front of it, comes after them.
use Rattle.std.proofs.Common.{length, ◌<◌, ◌++◌, arith, ◌∙◌, ap}
use Rattle.geometry_model.specs.CanonicalText.{position_text}
use Rattle.streams.proofs.PartLemmas.{text-front, text-put}
use Rattle.streams.proofs.SinkLemmas.{OnErr-holds}
use Rattle.wkt.proofs.printing.put_more.Goals as goal

pub returns-in_err-put_position-clause-front : goal.returns-in_err-put_position-clause-front
returns-in_err-put_position-clause-front g c =
    let within : c.loop-point.point-index < length c.args.positions.now = omega arith in
    OnErr-holds c.from_residual.result
    (text-front (λ p. c.args.before.now ++ position_text p ++ c.args.behind.now) c.args.positions.now c.loop-point.point-index _ _ _ (g.S.Sink.taken c.loop-point.sink) _ within
    (ap (λ p. c.args.before.now ++ position_text p ++ c.args.behind.now) c.point-item.is) c.loop-point.invariant.put c.in_err-put_position.ensures.front)

pub loop-point-preserved : goal.loop-point-preserved
loop-point-preserved g c = record {
  put =
      let within : c.loop-point.point-index < length c.args.positions.now = omega arith in
      text-put (λ p. c.args.before.now ++ position_text p ++ c.args.behind.now) c.args.positions.now c.loop-point.point-index _ _ _ (g.S.Sink.taken c.loop-point.sink) _ within
      (ap (λ p. c.args.before.now ++ position_text p ++ c.args.behind.now) c.point-item.is) c.loop-point.invariant.put c.in_ok-put_position.ensures.ok;
  same = c.in_ok-put_position.ensures.failures ∙ c.loop-point.invariant.same;
}
