use Rattle.std.proofs.Common.{◌∙◌, ◌≡◌, ◌+◌, arith, length, subst, sym, ap, None}
use Rattle.std.proofs.lemmas.List.{length_push}
use Rattle.feature_table.specs.Indexes.{HoldsNone}
use Rattle.table_model.specs.GeometryColumns.{ColumnShape}
use Rattle.table_model.specs.declared.definitions.ColumnDef.{ColumnDef}
use Rattle.feature_table.proofs.IndexLemmas.{EachKept, IsOwnIndex, all_kept, kept_at, one_more_kept}
use Rattle.feature_table.proofs.indexes.Indexes.build.Goals as goal

pub loop-place-preserved : goal.loop-place-preserved
loop-place-preserved g c =
    let indexed = g.I.EnvelopeIndex.indexed in
    let table = c.args.table.now in
    let rows = c.args.rows.now in
    let pushed = c.in_ok-push.ensures.items in
    let longer = length_push c.loop-place.own.items c.in_ok-own_index.field-0 in
    let own = kept_at indexed table rows c.as_slice-columns.result.now c.loop-place.place c.index-columns-place.result c.in_ok-own_index.field-0
    c.as_slice-columns.ensures c.index-columns-place.is c.in_ok-own_index.ensures.own
    (subst (λ (d : ColumnDef ColumnShape). c.in_ok-own_index.field-0 ≡ None → HoldsNone d.column_type) (sym c.index-columns-place.is) c.in_ok-own_index.ensures.none) in
    record {
      count = ap length pushed ∙ longer ∙ ap (λ n. n + 1) c.loop-place.invariant.count;
      kept = subst (EachKept (IsOwnIndex indexed table rows)) (sym pushed)
          (one_more_kept (IsOwnIndex indexed table rows) c.loop-place.own.items c.in_ok-own_index.field-0
          c.loop-place.invariant.kept
          (subst (λ n. IsOwnIndex indexed table rows n c.in_ok-own_index.field-0) (sym c.loop-place.invariant.count) own));
    }

pub returns : goal.returns
returns g c =
    let count : length c.loop-place.own.items ≡ length c.args.table.now.columns =
    omega (arith, c.loop-place.invariant.count, c.loop-place-test.false, c.loop-place.auto, ap length c.as_slice-columns.ensures) in
    all_kept g.I.EnvelopeIndex.indexed c.args.table.now c.args.rows.now c.loop-place.own.items c.in_ok-bare.bare c.requires count c.loop-place.invariant.kept c.in_ok-bare.ensures
