use Rattle.std.proofs.Common.{◌∙◌, ◌≡◌, ◌≢◌, arith, length}
use Rattle.csv.specs.Records.{fields_of}
use Rattle.feature_table.proofs.RowLemmas.{late_row, plain_row, unequal_row}
use Rattle.feature_table.specs.GeometryFields.{reading}
use Rattle.feature_table.proofs.typed_rows.push_checked_row.Goals as goal

pub returns-then-len-layout-clause-row : goal.returns-then-len-layout-clause-row
returns-then-len-layout-clause-row c header is other =
    let fields = fields_of c.args.record.now in
    let unequal : length fields ≢ length header = omega (arith, is.width) in
    unequal_row reading c.args.table.now header c.args.number fields unequal

pub returns-then-number-gt-ROW_LIMIT-clause-row : goal.returns-then-number-gt-ROW_LIMIT-clause-row
returns-then-number-gt-ROW_LIMIT-clause-row c header is other =
    let fields = fields_of c.args.record.now in
    let same : length fields ≡ length header = omega (arith, is.width) in
    late_row reading c.args.table.now header c.args.number fields same c.if-number-gt-ROW_LIMIT.true

pub returns-clause-row : goal.returns-clause-row
returns-clause-row c header is =
    let fields = fields_of c.args.record.now in
    let same : length fields ≡ length header = omega (arith, is.width) in
    rw (plain_row reading c.args.table.now header c.args.number fields same c.if-number-gt-ROW_LIMIT.false) (c.push_row.ensures.row header (c.as_slice.ensures.value ∙ is.places))
