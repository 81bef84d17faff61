-- The first place of the record's key is before the record, or the key is at no place before it.
use Rattle.std.proofs.Common.{◌≡◌, ◌∙◌, ◌-◌, ◌<◌, None, Some, ap, arith, length, of_z, subst, sym, to_z, ℤ}
use Rattle.std.proofs.lemmas.Int.{to_z-of_z}
use Rattle.std.proofs.lemmas.Option.{get_or_from_slice_get, slice_get-get_or, same_Some}
use Rattle.std.specs.Prelude.{slice_get}
use mir.Syntax.{w64}
use Rattle.record_reasons.proofs.KeyLemmas.{absent-key, as-many, key-fits, key-reason, no-key-reason}
use Rattle.record_reasons.proofs.ReasonLemmas.{none-is-so, some-is-so}
use Rattle.record_reasons.proofs.SeenLemmas.{unknown}
use Rattle.record_reasons.proofs.same_keys.same_key.Goals as goal

pub returns-in_default-index-clause-none : goal.returns-in_default-index-clause-none
returns-in_default-index-clause-none g c known of =
    let items = c.in-Some.keys.items in
    let are = some-is-so c.in_ok-keys.field-0 c.in-Some.keys _ c.in-Some.is (c.in_ok-keys.ensures.seen known of) in
    no-key-reason known c.args.table.now c.args.number items are (omega (arith, c.if-number-eq0.false))
    (λ i key less here there.
    c.in_default-index.not-Some key (c.index.ensures ∙ get_or_from_slice_get items (c.args.number - 1) (Some key) c.index.result.now here))

pub returns-in_default-place_of_key-clause-none : goal.returns-in_default-place_of_key-clause-none
returns-in_default-place_of_key-clause-none g c known of =
    let items = c.in-Some.keys.items in
    let are = some-is-so c.in_ok-keys.field-0 c.in-Some.keys _ c.in-Some.is (c.in_ok-keys.ensures.seen known of) in
    let many = as-many known c.args.table.now c.args.number items are in
    let within : c.args.number - 1 < length items = omega (arith, many, c.if-number-eq0.false) in
    let raw = c.in-Some-index.key in
    let mine : slice_get items (c.args.number - 1) ≡ Some (Some raw) =
    slice_get-get_or items (c.args.number - 1) c.index.result.now within ∙ ap Some (sym c.index.ensures ∙ c.in-Some-index.is) in
    let back = to_z-of_z w64 raw (key-fits known c.args.table.now c.args.number (c.args.number - 1) items raw are mine) in
    no-key-reason known c.args.table.now c.args.number items are (omega (arith, c.if-number-eq0.false))
    (λ i key less here there.
    let same : key ≡ to_z w64 (of_z w64 raw) = same_Some key raw (same_Some (Some key) (Some raw) (sym here ∙ mine)) ∙ sym back in
    let at_place = subst (λ (k : ℤ). slice_get items i ≡ Some (Some k)) same there in
    none-is-so c.place_of_key.result _ c.in_default-place_of_key.is c.place_of_key.ensures.none i (omega (arith, less))
    (ap (λ ks. slice_get ks i) c.as_slice.ensures.value ∙ at_place))

pub returns-clause-reason : goal.returns-clause-reason
returns-clause-reason g c known of =
    let items = c.in-Some.keys.items in
    let are = some-is-so c.in_ok-keys.field-0 c.in-Some.keys _ c.in-Some.is (c.in_ok-keys.ensures.seen known of) in
    let many = as-many known c.args.table.now c.args.number items are in
    let within : c.args.number - 1 < length items = omega (arith, many, c.if-number-eq0.false) in
    let raw = c.in-Some-index.key in
    let mine : slice_get items (c.args.number - 1) ≡ Some (Some raw) =
    slice_get-get_or items (c.args.number - 1) c.index.result.now within ∙ ap Some (sym c.index.ensures ∙ c.in-Some-index.is) in
    let back = to_z-of_z w64 raw (key-fits known c.args.table.now c.args.number (c.args.number - 1) items raw are mine) in
    let place = c.in-Some-place_of_key.place in
    key-reason known c.args.table.now c.args.number place items (to_z w64 (of_z w64 raw)) are (omega (arith, c.if-number-eq0.false))
    (omega (arith, c.in-Some-place_of_key.ensures.within, c.if-number-eq0.false))
    (subst (λ (k : ℤ). slice_get items (c.args.number - 1) ≡ Some (Some k)) (sym back) mine)
    (ap (λ ks. slice_get ks place) (sym c.as_slice.ensures.value) ∙ c.in-Some-place_of_key.ensures.there)
    (λ k less is. c.in-Some-place_of_key.ensures.first k less (ap (λ ks. slice_get ks k) c.as_slice.ensures.value ∙ is))

pub returns-in_default-clause-none : goal.returns-in_default-clause-none
returns-in_default-clause-none g c known of =
    absent-key known c.args.table.now c.args.number
    (none-is-so c.in_ok-keys.field-0 _ c.in_default.is (c.in_ok-keys.ensures.absent known of))

pub index-requires : goal.index-requires
index-requires g c =
    let keys = c.in_ok-keys.ensures.seen None (unknown g.R.Read.remaining c.args.records.now) in
    let are = some-is-so c.in_ok-keys.field-0 c.in-Some.keys _ c.in-Some.is keys in
    let many = as-many None c.args.table.now c.args.number c.in-Some.keys.items are in
    omega (arith, many, c.if-number-eq0.false)

pub place_of_key-requires : goal.place_of_key-requires
place_of_key-requires g c =
    let keys = c.in_ok-keys.ensures.seen None (unknown g.R.Read.remaining c.args.records.now) in
    let are = some-is-so c.in_ok-keys.field-0 c.in-Some.keys _ c.in-Some.is keys in
    let many = as-many None c.args.table.now c.args.number c.in-Some.keys.items are in
    omega (arith, many, ap length c.as_slice.ensures.value, c.if-number-eq0.false)
