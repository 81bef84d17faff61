use Rattle.std.proofs.Common.{Err, Ok, ◌∙◌, ◌<◌, ◌≤◌, ap, arith, length, sym}
use Rattle.std.proofs.lemmas.Result.{err_from_is_err_and}
use Rattle.csv.specs.Records.{fields_of}
use Rattle.feature_table.proofs.EachLemmas.{passed_all, passed_fault, passed_more}
use Rattle.feature_table.proofs.RowLemmas.{length-values}
use Rattle.feature_table.specs.GeometryFields.{reading}
use Rattle.table_model.specs.Loading.{row_of, values_of}
use Rattle.table_model.specs.declared.faults.LoadFault.TheVariants as fault
use Rattle.feature_table.proofs.typed_rows.row_of.Goals as goal

pub loop-place-preserved : goal.loop-place-preserved
loop-place-preserved c header is =
    let values = values_of reading c.args.table.now header c.args.number (fields_of c.args.record.now) in
    let size = length-values reading c.args.table.now header c.args.number (fields_of c.args.record.now) in
    let within : c.loop-place.place < length values = omega (arith, size) in
    let here = c.in_ok-value_at.ensures.value header (Err fault.TooManyRows) is in
    rw c.in_ok-push.ensures.items (passed_more values c.loop-place.place c.loop-place.values.items c.in_ok-value_at.field-0 (Err fault.TooManyRows) within (c.loop-place.invariant header is) here)

pub returns-in_err-value_at-clause-row : goal.returns-in_err-value_at-clause-row
unfolding row_of
returns-in_err-value_at-clause-row c header is =
    let values = values_of reading c.args.table.now header c.args.number (fields_of c.args.record.now) in
    let size = length-values reading c.args.table.now header c.args.number (fields_of c.args.record.now) in
    let within : c.loop-place.place < length values = omega (arith, size) in
    let p = err_from_is_err_and c.from_residual-in_err-value_at.result c.from_residual-in_err-value_at.ensures.1 in
    rw (p.1, p.2) (λ other. passed_fault values c.loop-place.place c.loop-place.values.items c.in_err-value_at.field-0.0 (Err fault.TooManyRows) within
    (c.loop-place.invariant header is) (c.in_err-value_at.ensures.value header (Err fault.TooManyRows) is other))

pub returns-clause-row : goal.returns-clause-row
unfolding row_of
returns-clause-row c header is =
    let values = values_of reading c.args.table.now header c.args.number (fields_of c.args.record.now) in
    let size = length-values reading c.args.table.now header c.args.number (fields_of c.args.record.now) in
    let past : length values ≤ c.loop-place.place = omega (arith, size) in
    passed_all values c.loop-place.place c.loop-place.values.items past (c.loop-place.invariant header is) ∙ ap Ok (sym c.from_vec.ensures)
