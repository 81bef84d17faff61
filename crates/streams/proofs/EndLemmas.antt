-- After the end of a record the tally is that of a new record, if no byte was a quote and nothing passed a limit.
use Rattle.std.proofs.Common.{◌≡◌, ◌∙◌, ◌≤◌, ◌<◌, ◌+◌, ◌-◌, ◌^◌, ◌++◌, ◌∷◌, [], ℕ, List, Bool, true, false, length, take, drop, get_or, refl, sym, ap, subst, arith}
use Rattle.std.proofs.Common.{inl, inr, take-append-drop}
use Rattle.std.specs.Prelude.{◌==◌, ◌||◌, if◌then◌else◌, min, nat_le, nat_lt}
use Rattle.std.specs.List.{fold, list_any}
use Rattle.std.proofs.lemmas.Bool.{eqb-true, or_cases, or_parts}
use Rattle.std.proofs.lemmas.Bool.Decides.{nat_tests}
use Rattle.std.proofs.lemmas.List.{length-take-le, take_more}
use Rattle.std.proofs.lemmas.List.Folds.{list_any-append}
use Rattle.std.proofs.lemmas.List.Sums.{fold-append}
use Rattle.basics.specs.Counts.{one_more}
use Rattle.streams.specs.Bounds.{at_field, at_record, checked, ends_line, field_limit, fields_limit, in_field, is_in_record, is_outside, is_past, is_quote, moved, new_record, place_after, place_outside, record_limit, tally_after}
use Rattle.streams.specs.RecordEnds.{IsRecordEnd, IsWithin}
use Rattle.streams.specs.declared.tallies.Place.{Place}
use Rattle.streams.specs.declared.tallies.Place.TheVariants as at
use Rattle.streams.specs.declared.tallies.Tally.{Tally}

-- ---- places

-- outside quotes a byte that is no quote leads to the same place from everywhere
place-after-outside : (p : Place) (b : ℕ) → is_outside p ≡ true → (b == 34) ≡ false → place_after p b ≡ place_outside b
place-after-outside at.RecordStart b o q = rw q refl
place-after-outside at.FieldStart b o q = rw q refl
place-after-outside at.Unquoted b o q = refl
place-after-outside at.Start b o q = cc o
place-after-outside at.FirstMark b o q = cc o
place-after-outside at.SecondMark b o q = cc o
place-after-outside at.Quoted b o q = cc o
place-after-outside at.QuoteInQuotes b o q = cc o

moved-place : (t : Tally) (p : Place) → (moved t p).place ≡ p
moved-place t at.RecordStart = refl
moved-place t at.FieldStart = refl
moved-place t at.Unquoted = refl
moved-place t at.Start = refl
moved-place t at.FirstMark = refl
moved-place t at.SecondMark = refl
moved-place t at.Quoted = refl
moved-place t at.QuoteInQuotes = refl

choice-outside : (x y : Bool) → is_outside (if x then at.FieldStart else if y then at.RecordStart else at.Unquoted) ≡ true
choice-outside true y = refl
choice-outside false true = refl
choice-outside false false = refl

choice-in_record : (x y : Bool) → y ≡ false → is_in_record (if x then at.FieldStart else if y then at.RecordStart else at.Unquoted) ≡ true
choice-in_record true y e = refl
choice-in_record false true e = cc e
choice-in_record false false e = refl

-- the place after a byte that is no quote
tally-place : (t : Tally) (b : ℕ) → is_outside t.place ≡ true → (b == 34) ≡ false → (tally_after t b).place ≡ place_outside b
tally-place t b o q = moved-place t (place_after t.place b) ∙ place-after-outside t.place b o q

-- without a quote, a text stays outside quotes
fold-outside : (t : Tally) (bytes : List ℕ) → is_outside t.place ≡ true → list_any is_quote bytes ≡ false → is_outside (fold tally_after t bytes).place ≡ true
fold-outside t [] o q = o
fold-outside t (b ∷ rest) o q =
    let parts = or_parts (b == 34) (list_any is_quote rest) q in
    fold-outside (tally_after t b) rest (ap is_outside (tally-place t b o parts.0) ∙ choice-outside (b == 44) (ends_line b)) parts.1

-- where a line ends
line-feed-place : (p : Place) → is_outside p ≡ true → place_after p 10 ≡ at.RecordStart
line-feed-place at.RecordStart o = refl
line-feed-place at.FieldStart o = refl
line-feed-place at.Unquoted o = refl
line-feed-place at.Start o = cc
line-feed-place at.FirstMark o = cc
line-feed-place at.SecondMark o = cc
line-feed-place at.Quoted o = cc
line-feed-place at.QuoteInQuotes o = cc

carriage-return-place : (p : Place) → is_outside p ≡ true → place_after p 13 ≡ at.RecordStart
carriage-return-place at.RecordStart o = refl
carriage-return-place at.FieldStart o = refl
carriage-return-place at.Unquoted o = refl
carriage-return-place at.Start o = cc
carriage-return-place at.FirstMark o = cc
carriage-return-place at.SecondMark o = cc
carriage-return-place at.Quoted o = cc
carriage-return-place at.QuoteInQuotes o = cc

line-place : (p : Place) (b : ℕ) → is_outside p ≡ true → ends_line b ≡ true → place_after p b ≡ at.RecordStart
line-place p b o e = elim (or_cases (b == 10) (b == 13) e) [
  | inl feed ↦ subst (λ x. place_after p x ≡ at.RecordStart) (sym (eqb-true b 10 feed)) (line-feed-place p o)
  | inr back ↦ subst (λ x. place_after p x ≡ at.RecordStart) (sym (eqb-true b 13 back)) (carriage-return-place p o)
]

-- ---- limits

min-le : (a b : ℕ) → min a b ≤ a
min-le a b = omega arith

-- one more is at most one more
one-more-within : (n more limit : ℕ) → n + (more + 1) ≤ limit → one_more n + more ≤ limit
one-more-within n more limit h = omega (arith, min-le (n + 1) (2 ^ 64 - 1))

none-within : (n more limit : ℕ) → n + (more + 1) ≤ limit → 0 + more ≤ limit
none-within n more limit h = omega arith

-- the same of a length that has to stay below its limit
one-more-below : (n more limit : ℕ) → n + (more + 1) < limit → one_more n + more < limit
one-more-below n more limit h = omega (arith, min-le (n + 1) (2 ^ 64 - 1))

none-below : (n more limit : ℕ) → n + (more + 1) < limit → 0 + more < limit
none-below n more limit h = omega arith

same-below : (n more limit : ℕ) → n + (more + 1) < limit → n + more < limit
same-below n more limit h = omega arith

blank-within : (x : Bool) (n more limit : ℕ) → n + (more + 1) ≤ limit → (if x then 0 else one_more n) + more ≤ limit
blank-within true n more limit h = none-within n more limit h
blank-within false n more limit h = one-more-within n more limit h

unpast : (a b c x y z more : ℕ) → x + more ≤ a → y + more < b → z + more ≤ c → (nat_lt a x || nat_le b y || nat_lt c z) ≡ false
unpast a b c x y z more f g h = grind (arith, nat_tests)

-- lengths that can't pass their limits are within them
checked-within : (t : Tally) (more : ℕ) → is_past t ≡ false → t.field_bytes + more ≤ field_limit → t.ended_fields + more < fields_limit
    → t.record_bytes + more ≤ record_limit → IsWithin (checked t) more
checked-within t more fresh f g h = record {
  fresh = rw fresh (unpast field_limit fields_limit record_limit t.field_bytes t.ended_fields t.record_bytes more f g h);
  field = f;
  fields = g;
  length = h;
}

field-within : (t : Tally) (p : Place) (more : ℕ) → IsWithin t (more + 1) → IsWithin (checked (in_field t p)) more
field-within t p more h = checked-within (in_field t p) more h.fresh (one-more-within _ more field_limit h.field) (same-below _ more fields_limit h.fields) (one-more-within _ more record_limit h.length)

moved-within : (t : Tally) (p : Place) (more : ℕ) → IsWithin t (more + 1) → IsWithin (checked (moved t p)) more
moved-within t at.RecordStart more h =
    checked-within (at_record t) more h.fresh (none-within _ more field_limit h.field) (none-below _ more fields_limit h.fields) (blank-within (is_in_record t.place) _ more record_limit h.length)
moved-within t at.FieldStart more h =
    checked-within (at_field t) more h.fresh (none-within _ more field_limit h.field) (one-more-below _ more fields_limit h.fields) (one-more-within _ more record_limit h.length)
moved-within t at.Unquoted more h = field-within t at.Unquoted more h
moved-within t at.Start more h = field-within t at.Start more h
moved-within t at.FirstMark more h = field-within t at.FirstMark more h
moved-within t at.SecondMark more h = field-within t at.SecondMark more h
moved-within t at.Quoted more h = field-within t at.Quoted more h
moved-within t at.QuoteInQuotes more h = field-within t at.QuoteInQuotes more h

-- a byte takes one of the bytes that are left
fold-within : (t : Tally) (bytes : List ℕ) (more : ℕ) → IsWithin t (length bytes + more) → IsWithin (fold tally_after t bytes) more
fold-within t [] more h =
    let none : length {A = ℕ} [] + more ≡ more = omega arith in
    subst (IsWithin t) none h
fold-within t (b ∷ rest) more h =
    let one : length (b ∷ rest) + more ≡ (length rest + more) + 1 = omega arith in
    fold-within (tally_after t b) rest more (moved-within t (place_after t.place b) (length rest + more) (subst (IsWithin t) one h))

less-within : (t : Tally) (few many : ℕ) → few ≤ many → IsWithin t many → IsWithin t few
less-within t few many le h = record { fresh = h.fresh; field = omega (arith, h.field); fields = omega (arith, h.fields); length = omega (arith, h.length) }

-- ---- the end of a record

-- bytes without a quote begin with bytes without a quote
any-front : (test : ℕ → Bool) (n : ℕ) (bytes : List ℕ) → list_any test bytes ≡ false → list_any test (take n bytes) ≡ false
any-front test n bytes none =
    (or_parts (list_any test (take n bytes)) (list_any test (drop n bytes)) (sym (list_any-append test (take n bytes) (drop n bytes)) ∙ ap (list_any test) (take-append-drop n bytes) ∙ none)).0

last-quote : (bytes : List ℕ) (b : ℕ) → list_any is_quote (bytes ++ b ∷ []) ≡ false → (b == 34) ≡ false
last-quote bytes b none =
    let parts = or_parts (list_any is_quote bytes) (list_any is_quote (b ∷ [])) (sym (list_any-append is_quote bytes (b ∷ [])) ∙ none) in
    (or_parts (b == 34) false parts.1).0

fold-last : (t : Tally) (bytes : List ℕ) (b : ℕ) → fold tally_after t (bytes ++ b ∷ []) ≡ tally_after (fold tally_after t bytes) b
fold-last t bytes b = fold-append tally_after t bytes (b ∷ [])

new-record : (t : Tally) → is_in_record t.place ≡ true → is_past t ≡ false → checked (at_record t) ≡ new_record
new-record t within fresh = rw (within, fresh) refl

-- a line's end after another byte
ended-at : (t : Tally) (bytes : List ℕ) (k : ℕ) → is_outside t.place ≡ true → IsWithin t (length bytes) → list_any is_quote bytes ≡ false
    → k + 1 < length bytes → ends_line (get_or bytes (k + 1) 0) ≡ true → ends_line (get_or bytes k 0) ≡ false
    → fold tally_after t (take (k + 1 + 1) bytes) ≡ new_record
ended-at t bytes k outside within none lt last before =
    let b = get_or bytes k 0 in
    let early : k < length bytes = omega arith in
    let front = take k bytes in
    let up_to : take (k + 1) bytes ≡ front ++ b ∷ [] = take_more bytes k 0 early in
    let unquoted : list_any is_quote (front ++ b ∷ []) ≡ false = subst (λ l. list_any is_quote l ≡ false) up_to (any-front is_quote (k + 1) bytes none) in
    let m = fold tally_after t front in
    let m1 = fold tally_after t (take (k + 1) bytes) in
    let step : m1 ≡ tally_after m b = ap (fold tally_after t) up_to ∙ fold-last t front b in
    let m_outside = fold-outside t front outside (any-front is_quote k bytes none) in
    let m1_outside = fold-outside t (take (k + 1) bytes) outside (any-front is_quote (k + 1) bytes none) in
    let place : m1.place ≡ place_outside b = ap (λ x. x.place) step ∙ tally-place m b m_outside (last-quote front b unquoted) in
    let in_record : is_in_record m1.place ≡ true = ap is_in_record place ∙ choice-in_record (b == 44) (ends_line b) before in
    let size : length (take (k + 1) bytes) ≡ k + 1 = length-take-le (k + 1) bytes (omega arith) in
    let fresh : is_past m1 ≡ false = (fold-within t (take (k + 1) bytes) 0 (less-within t _ (length bytes) (omega (arith, size)) within)).fresh in
    ap (fold tally_after t) (take_more bytes (k + 1) 0 lt) ∙ fold-last t (take (k + 1) bytes) (get_or bytes (k + 1) 0)
    ∙ ap (λ p. checked (moved m1 p)) (line-place m1.place (get_or bytes (k + 1) 0) m1_outside last) ∙ new-record m1 in_record fresh

-- the tally where a record ends
pub ended : (t : Tally) (bytes : List ℕ) (end : ℕ) → is_outside t.place ≡ true → IsWithin t (length bytes) → list_any is_quote bytes ≡ false
    → IsRecordEnd bytes end → fold tally_after t (take end bytes) ≡ new_record
ended t bytes end outside within none is =
    let two = is.two in
    let fits = is.within in
    let whole : end ≡ (end - 2) + 1 + 1 = omega arith in
    let one : end - 1 ≡ (end - 2) + 1 = omega arith in
    let lt : (end - 2) + 1 < length bytes = omega arith in
    let last = subst (λ n. ends_line (get_or bytes n 0) ≡ true) one is.last in
    subst (λ n. fold tally_after t (take n bytes) ≡ new_record) (sym whole) (ended-at t bytes (end - 2) outside within none lt last is.before)
