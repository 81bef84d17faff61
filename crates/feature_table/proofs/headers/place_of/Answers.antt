use Rattle.std.proofs.Common.{[], ◌∙◌, ◌≡◌, ◌<◌, ap, arith, false, get_or, is_some, length, sym}
use Rattle.csv.specs.Records.{fields_of}
use Rattle.table_model.specs.Texts.{same_name}
use Rattle.feature_table.proofs.HeaderLemmas.{found_kept, found_next}
use Rattle.feature_table.proofs.headers.place_of.Goals as goal
use Rattle.feature_table.proofs.headers.place_of.Goals.{then-same_name+else-is_some, else-same_name}

pub loop-place-preserved : goal.loop-place-preserved
loop-place-preserved c =
    let fields = fields_of c.args.header.now in
    let test = same_name c.args.name.now in
    let place = c.loop-place.place in
    let within : place < length fields = omega (arith, c.len-place-end.ensures) in
    let same : test (get_or fields place []) ≡ c.same_name.result = ap test (sym c.field_at.ensures) ∙ sym c.same_name.ensures in
    let before = c.loop-place.found in
    elim c.if-same_name.branch [
      | then-same_name+else-is_some w ↦
          let none : is_some before ≡ false = sym w.is_some.ensures ∙ w.if-is_some.false in
          rw w.found-is (found_next test fields place [] before within none c.loop-place.invariant (same ∙ w.if-same_name.true))
      | else-same_name w ↦ rw w.found-is (found_kept test fields place [] before within c.loop-place.invariant (same ∙ w.if-same_name.false))
    ]
