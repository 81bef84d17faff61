-- The lines before this one were put; this one, or a front of it, comes after them.
use Rattle.std.proofs.Common.{◌<◌, ◌∙◌, length, arith}
use Rattle.geometry_model.specs.CanonicalText.{line_text}
use Rattle.streams.proofs.SinkLemmas.{OnErr-holds}
use Rattle.wkt.proofs.PrintLemmas.{line_at, joined-put, joined-front}
use Rattle.wkt.proofs.printing.put_joined_lines.Goals as goal

pub returns-in_err-put_line-clause-front : goal.returns-in_err-put_line-clause-front
returns-in_err-put_line-clause-front g c =
    let within : c.loop-index.index < length c.args.lines.now = omega arith in
    OnErr-holds c.from_residual.result
    (joined-front line_text c.args.lines.now c.loop-index.index c.index-lines-index.result _ _ (g.S.Sink.taken c.loop-index.sink) _ within
    (line_at c.loop-index.index _ _ _ c.opening.ensures (c.positions.ensures.positions ∙ c.index-lines-index.is)) c.loop-index.invariant.put c.in_err-put_line.ensures.front)

pub loop-index-preserved : goal.loop-index-preserved
loop-index-preserved g c = record {
  put =
      let within : c.loop-index.index < length c.args.lines.now = omega arith in
      joined-put line_text c.args.lines.now c.loop-index.index c.index-lines-index.result _ _ (g.S.Sink.taken c.loop-index.sink) _ within
      (line_at c.loop-index.index _ _ _ c.opening.ensures (c.positions.ensures.positions ∙ c.index-lines-index.is)) c.loop-index.invariant.put c.in_ok-put_line.ensures.ok;
  same = c.in_ok-put_line.ensures.failures ∙ c.loop-index.invariant.same;
}
