-- The bytes before `at` were put; a piece more, or a failed put, leaves a front of the text put.
use Rattle.std.proofs.Common.{arith, length-take, length-drop, ◌∙◌}
use Rattle.streams.proofs.SinkLemmas.{OnErr-holds, put_all-front, put_all-more}
use Rattle.streams.proofs.sink.put_all.Goals as goal

pub returns-in_err-at-clause-front : goal.returns-in_err-at-clause-front
returns-in_err-at-clause-front g c = OnErr-holds c.from_residual.result
    (put_all-front _ _ _ c.loop-at.at c.args.text.now c.loop-at.invariant.1 c.in_err-at.ensures.bytes)

pub loop-at-preserved : goal.loop-at-preserved
loop-at-preserved g c =
    let piece = c.in_ok-at.ensures in (
      grind (arith, length-take, length-drop, piece.at_most, c.loop-at.invariant.0),
      put_all-more _ _ _ c.loop-at.at c.in_ok-at.field-0 c.args.text.now c.loop-at.invariant.1 piece.bytes,
      piece.failures ∙ c.loop-at.invariant.2,
    )
