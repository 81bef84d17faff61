-- The lines of the parts before this one were put; those of this one, or a beginning of them, come after them.
use Rattle.std.proofs.Common.{length, ◌<◌, arith, ◌∙◌}
use Rattle.streams.proofs.SinkLemmas.{OnErr-holds}
use Rattle.streams.proofs.PartLemmas.{parts-front, parts-put}
use Rattle.witnesses.specs.Shown.{witness_at}
use Rattle.witnesses.specs.WitnessTexts.{row_text}
use Rattle.witnesses.proofs.witness_lines.put_rows.Goals as goal

pub returns-in_err-put_row-clause-front : goal.returns-in_err-put_row-clause-front
returns-in_err-put_row-clause-front g c =
    let within : c.loop-part.part-index < length c.args.parts.now = omega arith in
    OnErr-holds c.from_residual.result
    (parts-front (λ l. row_text (witness_at c.args.witnesses.now) l) c.args.parts.now c.loop-part.part-index _ _ (g.S.Sink.taken c.loop-part.sink) _ within c.loop-part.invariant.put
    c.in_err-put_row.ensures.front)

pub loop-part-preserved : goal.loop-part-preserved
loop-part-preserved g c = record {
  put =
      let within : c.loop-part.part-index < length c.args.parts.now = omega arith in
      parts-put (λ l. row_text (witness_at c.args.witnesses.now) l) c.args.parts.now c.loop-part.part-index _ _ (g.S.Sink.taken c.loop-part.sink) _ within c.loop-part.invariant.put c.in_ok-put_row.ensures.ok;
  same = c.in_ok-put_row.ensures.failures ∙ c.loop-part.invariant.same;
}
