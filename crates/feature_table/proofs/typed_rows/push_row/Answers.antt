use Rattle.std.proofs.Common.{Err, ◌<◌, ◌≤◌, ap, arith, length}
use Rattle.std.proofs.lemmas.List.{length_push}
use Rattle.std.proofs.lemmas.Result.{err_from_is_err_and}
use Rattle.csv.specs.Records.{fields_of}
use Rattle.feature_table.proofs.EachLemmas.{grown_more, grown_none, passed_all, passed_fault}
use Rattle.feature_table.proofs.RowLemmas.{length-values}
use Rattle.feature_table.specs.GeometryFields.{reading}
use Rattle.table_model.specs.Loading.{row_of, values_of}
use Rattle.table_model.specs.declared.faults.LoadFault.TheVariants as fault
use Rattle.feature_table.proofs.typed_rows.push_row.Goals as goal

pub loop-place-init : goal.loop-place-init
loop-place-init c = record {
  width = omega arith;
  row = λ header is. grown_none (values_of reading c.args.table.now header c.args.number (fields_of c.args.record.now)) c.args.values.now;
}

pub loop-place-preserved : goal.loop-place-preserved
loop-place-preserved c = record {
  width = omega (arith, ap length c.in_ok-push.ensures, length_push c.loop-place.values c.in_ok-value_at.field-0, c.loop-place.invariant.width);
  row = λ header is.
      let values = values_of reading c.args.table.now header c.args.number (fields_of c.args.record.now) in
      let size = length-values reading c.args.table.now header c.args.number (fields_of c.args.record.now) in
      let within : c.loop-place.place < length values = omega (arith, size) in
      let here = c.in_ok-value_at.ensures.value header (Err fault.TooManyRows) is in
      rw c.in_ok-push.ensures
      (grown_more values c.loop-place.place c.args.values.now c.loop-place.values c.in_ok-value_at.field-0 (Err fault.TooManyRows) within
      (c.loop-place.invariant.row header is) here);
}

pub returns-in_err-value_at-clause-row : goal.returns-in_err-value_at-clause-row
unfolding row_of
returns-in_err-value_at-clause-row c header is =
    let values = values_of reading c.args.table.now header c.args.number (fields_of c.args.record.now) in
    let size = length-values reading c.args.table.now header c.args.number (fields_of c.args.record.now) in
    let within : c.loop-place.place < length values = omega (arith, size) in
    let g = c.loop-place.invariant.row header is in
    let p = err_from_is_err_and c.from_residual.result c.from_residual.ensures.1 in
    rw (p.1, p.2) (λ other. passed_fault values c.loop-place.place g.front c.in_err-value_at.field-0.0 (Err fault.TooManyRows) within
    g.passed (c.in_err-value_at.ensures.value header (Err fault.TooManyRows) is other))

pub returns-clause-row : goal.returns-clause-row
unfolding row_of
returns-clause-row c header is =
    let values = values_of reading c.args.table.now header c.args.number (fields_of c.args.record.now) in
    let size = length-values reading c.args.table.now header c.args.number (fields_of c.args.record.now) in
    let past : length values ≤ c.loop-place.place = omega (arith, size) in
    let g = c.loop-place.invariant.row header is in
    (g.front, passed_all values c.loop-place.place g.front past g.passed, g.grown)
