use Rattle.std.proofs.Common.{◌∙◌, ◌≡◌, ap, arith, get_or}
use Rattle.csv.specs.Records.{fields_of}
use Rattle.feature_table.proofs.RowLemmas.{value_at}
use Rattle.feature_table.specs.GeometryFields.{reading}
use Rattle.feature_table.proofs.typed_rows.value_at.Goals as goal

pub returns-clause-value : goal.returns-clause-value
returns-clause-value c header d is =
    let table = c.args.table.now in
    let fields = fields_of c.args.record.now in
    let column = c.index-columns-place.result in
    let here : column ≡ get_or table.columns c.args.place column = c.index-columns-place.is ∙ ap (λ columns. get_or columns c.args.place column) c.as_slice-columns.ensures in
    let value = value_at reading table header c.args.number fields c.args.places.now c.args.place column d (omega (arith, c.requires.places, c.requires.within)) is here in
    rw (value, ← c.is_required-required.ensures, ← c.field_at.ensures) c.value_of.ensures.value
