use Rattle.std.proofs.Common.{Err, Ok, ◌∙◌, ◌≡◌, ◌≢◌, ap, arith, length, sym}
use Rattle.std.proofs.lemmas.Result.{err_from_is_err_and}
use Rattle.std.proofs.lemmas.Int.{to_z-of_z}
use mir.Syntax.{w64}
use Rattle.csv.specs.Records.{fields_of}
use Rattle.feature_table.specs.GeometryFields.{reading}
use Rattle.table_model.specs.Loading.{key_of}
use Rattle.tiles.proofs.CheckLemmas.{equal, unequal}
use Rattle.tiles.proofs.checking.shown_key.Goals as goal

pub returns-then-len-layout-clause-gives : goal.returns-then-len-layout-clause-gives
returns-then-len-layout-clause-gives g c header is other =
    let fields = fields_of c.args.fields.now in
    let differ : length fields ≢ length header = omega (arith, is.width) in
    unequal reading c.args.table.now header c.args.number fields differ

pub returns-in_err-row-clause-gives : goal.returns-in_err-row-clause-gives
returns-in_err-row-clause-gives g c header is =
    let fields = fields_of c.args.fields.now in
    let same : length fields ≡ length header = omega (arith, is.width) in
    let p = err_from_is_err_and c.from_residual.result c.from_residual.ensures.1 in
    rw (p.1, p.2) (λ other. equal reading c.args.table.now header c.args.number fields (Err c.in_err-row.field-0.0) same (c.in_err-row.ensures.row header (c.as_slice.ensures.value ∙ is.places) other))

pub returns-clause-gives : goal.returns-clause-gives
returns-clause-gives g c header is =
    let fields = fields_of c.args.fields.now in
    let same : length fields ≡ length header = omega (arith, is.width) in
    let key = equal reading c.args.table.now header c.args.number fields (Ok c.in_ok-row.row) same (c.in_ok-row.ensures.row header (c.as_slice.ensures.value ∙ is.places)) in
    let back = to_z-of_z w64 c.key_of.result (record { sfits = c.key_of.type_inv }) ∙ c.key_of.ensures ∙ ap (key_of c.args.table.now.key) c.as_slice-3.ensures in
    key ∙ ap Ok (sym back)
