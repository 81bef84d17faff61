-- The first field of the header that has the name.
use Rattle.std.proofs.Common.{[], ◌∙◌, ◌<◌, ◌≤◌, None, ap, arith, get_or, length, refl, sym}
use Rattle.csv.specs.Records.{fields_of}
use Rattle.feature_table.proofs.HeaderLemmas.{found_kept, found_next}
use Rattle.table_model.specs.Texts.{same_name}
use Rattle.record_reasons.proofs.NameLemmas.{no-place}
use Rattle.record_reasons.proofs.named_fields.field_named.Goals as goal

pub returns-then-same_name : goal.returns-then-same_name
returns-then-same_name c =
    let fields = fields_of c.args.header.now in
    let test = same_name c.args.name.now in
    let place = c.loop-place.place in
    let within : place < length fields = omega (arith, c.len-place-end.ensures) in
    let same = ap test (sym c.field_at.ensures) ∙ sym c.same_name.ensures ∙ c.if-same_name.true in
    let found = found_next test fields place [] None within refl c.loop-place.invariant same in
    c.field_at-then-same_name.ensures ∙ ap (λ k. get_or (fields_of c.args.record.now) k []) (sym found.1)

pub loop-place-preserved : goal.loop-place-preserved
loop-place-preserved c =
    let fields = fields_of c.args.header.now in
    let test = same_name c.args.name.now in
    let place = c.loop-place.place in
    let within : place < length fields = omega (arith, c.len-place-end.ensures) in
    let same = ap test (sym c.field_at.ensures) ∙ sym c.same_name.ensures ∙ c.if-same_name.false in
    found_kept test fields place [] None within c.loop-place.invariant same

pub returns : goal.returns
returns c =
    let fields = fields_of c.args.header.now in
    let past : length fields ≤ c.loop-place.place = omega (arith, c.loop-place-test.false, c.len-place-end.ensures) in
    c.field_at-2.ensures ∙ ap (λ k. get_or (fields_of c.args.record.now) k []) (sym (no-place (same_name c.args.name.now) fields c.loop-place.place past c.loop-place.invariant))
