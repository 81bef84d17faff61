-- The record has the fields of the items before this one; this one's comes after them.
use Rattle.std.proofs.Common.{◌∙◌, refl, subst}
use Rattle.std.specs.Prelude.{Err}
use Rattle.streams.proofs.WriterLemmas.{holds-none}
use Rattle.streams.specs.RecordWriters.{CountsPut}
use Rattle.table_model.specs.AnswerTexts.{item_text}
use Rattle.table_model.specs.GeometryColumns.{geometry_writing}
use Rattle.query_runs.proofs.PutLemmas.{put-begun}
use Rattle.query_runs.proofs.RecordLemmas.{fields-ended, fields-front, fields-held}
use Rattle.query_runs.proofs.record_fields.put_row.Goals as goal

pub loop-item-init : goal.loop-item-init
loop-item-init g c = record {
  held = holds-none c.args.writer.now (g.S.Sink.taken c.args.sink.now) c.requires;
  same = refl;
}

pub loop-item-preserved : goal.loop-item-preserved
loop-item-preserved g c = record {
  held = fields-held (item_text geometry_writing c.args.rows.now) c.as_slice-item-items.result.now c.args.query.now.items
      c.loop-item.item-index _ c.put_item.new.writer _ _ c.as_slice-item-items.ensures c.loop-item-test.true
      (c.in_ok-put_item.ensures.added _ _ c.loop-item.invariant.held);
  same = c.in_ok-put_item.ensures.failures ∙ c.loop-item.invariant.same;
}

pub returns-in_err-put_item-clause-puts : goal.returns-in_err-put_item-clause-puts
returns-in_err-put_item-clause-puts g c =
    put-begun c.from_residual.result c.in_err-put_item.field-0.0 _ _ _ _ _ c.from_residual.ensures.1
    (fields-front (item_text geometry_writing c.args.rows.now) c.as_slice-item-items.result.now c.args.query.now.items
    c.loop-item.item-index _ _ _ c.as_slice-item-items.ensures c.loop-item-test.true
    (c.in_err-put_item.ensures.front _ _ c.loop-item.invariant.held))
    (subst (λ n. CountsPut {A = Unit {0}} n (g.S.Sink.failures c.put_item.new.sink) (Err c.in_err-put_item.field-0.0))
    c.loop-item.invariant.same c.in_err-put_item.ensures.failures)

pub returns-clause-puts : goal.returns-clause-puts
returns-clause-puts g c =
    fields-ended c.end.result (item_text geometry_writing c.args.rows.now) c.as_slice-item-items.result.now c.args.query.now.items
    c.loop-item.item-index _ _ _ _ _ c.as_slice-item-items.ensures c.loop-item-test.false
    (c.end.ensures.ok _ _ c.loop-item.invariant.held) (c.end.ensures.front _ _ c.loop-item.invariant.held)
    c.loop-item.invariant.same c.end.ensures.failures
