-- Keys of records that were read, and a record with the key of another.
use Rattle.std.proofs.Common.{◌≡◌, ◌∙◌, ◌+◌, ◌-◌, ◌<◌, ◌≤◌, ◌++◌, ◌^◌, ℕ, ℤ, pos, negsuc, zero, suc, Bool, true, false, List, [], ◌∷◌, Option, Some, None, ap, arith, length, map, refl, subst, sym, ltb-true}
use Rattle.std.proofs.lemmas.Bool.{and_parts}
use Rattle.std.proofs.lemmas.List.{length-map, map-append}
use Rattle.std.specs.Int.{w64}
use Rattle.std.specs.Prelude.{FitsSigned, if◌then◌else◌, slice_get}
use Rattle.std.specs.Str.Parse.{signed_digits_value}
use Rattle.std.proofs.lemmas.Option.{same_Some}
use Rattle.basics.proofs.Numbers.{one_less}
use Rattle.basics.proofs.Lists.{unmapped, mapped, found_in_front}
use Rattle.record_reasons.specs.Reasons.{HasKey, HasNoKeyReason, IsKeyReason, IsOfKey, key_in, key_under}
use Rattle.record_reasons.specs.SeenKeys.{AreKeys}
use Rattle.record_reasons.specs.SeenRecords.{IsAbsent}
use Rattle.record_reasons.specs.declared.reason.Reason.{Reason}
use Rattle.record_reasons.specs.declared.reason.Reason.TheVariants as reasons
use Rattle.table_model.specs.GeometryColumns.{ColumnShape}
use Rattle.table_model.specs.Loading.{Record, field_under, fits_64_bits, integer_of, is_number, number_in, row_limit, trimmed}
use Rattle.table_model.specs.declared.definitions.ColumnDef.{ColumnDef}
use Rattle.table_model.specs.declared.definitions.TableDef.{TableDef}

-- ---- elements

-- what is in a longer list is in its beginning, if it is within it
pub back : {X : Type 0} (xs ys : List X) (i : ℕ) (x : X) → i < length xs → slice_get (xs ++ ys) i ≡ Some x → slice_get xs i ≡ Some x
back [] ys i x within is = absurd (omega arith)
back (y ∷ xs) ys zero x within is = is
back (y ∷ xs) ys (suc i) x within is = let less : i < length xs = omega (arith, within) in back xs ys i x less is

-- ---- numbers

bits-fit : (z : ℤ) → fits_64_bits z ≡ true → FitsSigned w64 z
bits-fit (pos n) h = record { sfits = ltb-true n (2 ^ 63) h }
bits-fit (negsuc n) h = record { sfits = ltb-true n (2 ^ 63) h }

-- a text is read as a whole number only within 64 bits
number-fits : (text : List ℕ) (n : ℤ) → number_in text ≡ Some n → FitsSigned w64 n
number-fits text n e = go (is_number text) refl e
  where
    go : (b : Bool) → is_number text ≡ b → ◌≡◌ {A = Option ℤ} (if b then Some (signed_digits_value 10 text) else None) (Some n) → FitsSigned w64 n
    go false is e = cc e
    go true is e =
        let same : signed_digits_value 10 text ≡ n = cc e in
        bits-fit n (ap fits_64_bits (sym same) ∙ (and_parts _ _ (and_parts _ _ is).1).1)

integer-fits : (bytes : List ℕ) (n : ℤ) → integer_of bytes ≡ Some n → FitsSigned w64 n
unfolding integer_of
integer-fits bytes n e = number-fits (trimmed bytes) n e

key-in-fits : (c : Option (ColumnDef ColumnShape)) (header fields : Record) (n : ℤ) → key_in c header fields ≡ Some n → FitsSigned w64 n
key-in-fits None header fields n is = cc is
key-in-fits (Some c) header fields n is = integer-fits (field_under header fields c.name) n is

-- so does a key
pub key-fits : (known : Option (List ℕ)) (table : TableDef ColumnShape) (number i : ℕ) (keys : List (Option ℤ)) (key : ℤ) → AreKeys known table number keys
    → slice_get keys i ≡ Some (Some key) → FitsSigned w64 key
key-fits known table number i keys key are there =
    let one = unmapped (key_under table are.header) are.rest i (Some key) (ap (λ ks. slice_get ks i) (sym are.are) ∙ there) in
    key-in-fits (slice_get table.columns table.key) are.header one.0 key one.2

-- there are as many keys as records
pub as-many : (known : Option (List ℕ)) (table : TableDef ColumnShape) (number : ℕ) (keys : List (Option ℤ)) → AreKeys known table number keys → length keys ≡ number
as-many known table number keys are = ap length are.are ∙ length-map are.rest (key_under table are.header) ∙ are.size

-- ---- keys

-- the keys of one record more
pub map-more : {X Y : Type 0} (of : X → Y) (xs : List X) (x : X) (was new : List Y) (y : Y) → was ≡ map of xs → new ≡ was ++ y ∷ [] → y ≡ of x
    → new ≡ map of (xs ++ x ∷ [])
map-more of xs x was new y are more is = rw (more, are, is, map-append of xs (x ∷ [])) refl

-- a key at a place is the key of the record after it
pub has-key : (table : TableDef ColumnShape) (header : Record) (rest : List Record) (keys : List (Option ℤ)) (i : ℕ) (key : ℤ)
    → keys ≡ map (key_under table header) rest → slice_get keys i ≡ Some (Some key) → HasKey table header (header ∷ rest) (suc i) key
has-key table header rest keys i key are there =
    unmapped (key_under table header) rest i (Some key) (ap (λ ks. slice_get ks i) (sym are) ∙ there)

-- and the key of a record is at the place before its number
pub key-there : (table : TableDef ColumnShape) (header : Record) (rest : List Record) (keys : List (Option ℤ)) (i : ℕ) (key : ℤ)
    → keys ≡ map (key_under table header) rest → HasKey table header (header ∷ rest) (suc i) key → slice_get keys i ≡ Some (Some key)
key-there table header rest keys i key are has =
    ap (λ ks. slice_get ks i) are ∙ mapped (key_under table header) rest i has.0 has.1 ∙ ap Some has.2

-- the key of a record of a text that begins with others is that of one of these
moved : (table : TableDef ColumnShape) (header other : Record) (read mine more yours : List Record) (number : ℕ) (key : ℤ) → other ≡ header
    → mine ++ more ≡ read ++ yours → number < length mine → HasKey table other read number key → HasKey table header mine number key
moved table header other read mine more yours number key same is within has = (
  has.0,
  back mine more number has.0 within (ap (λ rs. slice_get rs number) is ∙ found_in_front read yours number has.0 has.1),
  subst (λ h. key_under table h has.0 ≡ Some key) same has.2,
)

-- the first of two texts that begin with a header each
same-header : (header other : Record) (rest read more yours : List Record) → (header ∷ rest) ++ more ≡ read ++ yours → slice_get read 0 ≡ Some other → other ≡ header
same-header header other rest read more yours is first =
    same_Some other header (sym (found_in_front read yours 0 other first) ∙ ap (λ rs. slice_get rs 0) (sym is))

-- ---- reasons

-- keys of which one before that of the number is the same show the reason
pub key-reason : (known : Option (List ℕ)) (table : TableDef ColumnShape) (number place : ℕ) (keys : List (Option ℤ)) (key : ℤ) → AreKeys known table number keys
    → 1 ≤ number → place + 1 < number → slice_get keys (number - 1) ≡ Some (Some key) → slice_get keys place ≡ Some (Some key)
    → ((k : ℕ) → k < place → slice_get keys k ≡ Some (Some key) → ⊥) → IsKeyReason known table number (reasons.SameKey (place + 1) key)
key-reason known table zero place keys key are low within here there first = absurd (omega (arith, low))
key-reason known table (suc n) place keys key are low within here there first =
    let here_too = subst (λ k. slice_get keys k ≡ Some (Some key)) (one_less n) here in
    let is : HasKey table are.header (are.header ∷ are.rest) (suc n) key = has-key table are.header are.rest keys n key are.are here_too in
    let earlier = has-key table are.header are.rest keys place key are.are there in
    let more : suc place ≡ place + 1 = omega arith in
    record {
      header = are.header;
      read = are.header ∷ are.rest;
      begins = are.begins;
      first = refl;
      has = (
        omega arith,
        within,
        is,
        subst (λ k. HasKey table are.header (are.header ∷ are.rest) k key) more earlier,
        λ k some less has. before k some less has,
      );
    }
  where
    before : (k : ℕ) → 1 ≤ k → k < place + 1 → HasKey table are.header (are.header ∷ are.rest) k key → ⊥
    before zero some less has = absurd (omega (arith, some))
    before (suc k) some less has = first k (omega (arith, less)) (key-there table are.header are.rest keys k key are.are has)

-- a reason of a key is of two records that have it
two-records : (table : TableDef ColumnShape) (header : Record) (read : List Record) (number : ℕ) (reason : Reason) → IsOfKey table header read number reason
    → (first : ℕ) × (key : ℤ) × (1 ≤ first) × (first < number) × HasKey table header read number key × HasKey table header read first key
two-records table header read number (reasons.SameKey first key) is = (first, key, is.0, is.1, is.2, is.3)
two-records table header read number _ is = absurd is

-- no number that isn't one of a record has a reason
pub outside : (known : Option (List ℕ)) (table : TableDef ColumnShape) (number : ℕ) → (number ≤ row_limit + 1 → number ≡ 0) → HasNoKeyReason known table number
outside known table number past text is within reason has =
    let two = two-records table has.header has.read number reason has.has in
    absurd (omega (arith, past within, two.3))

-- nor has that of a record that isn't there
pub absent-key : (known : Option (List ℕ)) (table : TableDef ColumnShape) (number : ℕ) → IsAbsent known number → HasNoKeyReason known table number
absent-key known table number absent text is within reason has =
    let two = two-records table has.header has.read number reason has.has in
    let all = has.begins text refl in
    let gone : None ≡ Some two.4.0 = sym (absent text is) ∙ ap (λ rs. slice_get rs number) all.1 ∙ found_in_front has.read all.0 number two.4.0 two.4.1 in
    cc gone

-- where the keys show none, there is none
pub no-key-reason : (known : Option (List ℕ)) (table : TableDef ColumnShape) (number : ℕ) (keys : List (Option ℤ)) → AreKeys known table number keys → 1 ≤ number
    → ((i : ℕ) (key : ℤ) → i + 1 < number → slice_get keys (number - 1) ≡ Some (Some key) → slice_get keys i ≡ Some (Some key) → ⊥)
    → HasNoKeyReason known table number
no-key-reason known table zero keys are low none text is within reason has = absurd (omega (arith, low))
no-key-reason known table (suc n) keys are low none text is within reason has =
    let two = two-records table has.header has.read (suc n) reason has.has in
    go two.0 two.1 two.2 two.3 two.4 two.5
  where
    go : (first : ℕ) (key : ℤ) → 1 ≤ first → first < suc n → HasKey table has.header has.read (suc n) key → HasKey table has.header has.read first key → ⊥
    go zero key some less last same = absurd (omega (arith, some))
    go (suc i) key some less last same =
        let mine = are.begins text is in
        let yours = has.begins text refl in
        let both = sym mine.1 ∙ yours.1 in
        let one = same-header are.header has.header are.rest has.read mine.0 yours.0 both has.first in
        let size : length (are.header ∷ are.rest) ≡ suc (suc n) = ap suc are.size in
        let here = moved table are.header has.header has.read (are.header ∷ are.rest) mine.0 yours.0 (suc n) key one both (omega (arith, size)) last in
        let there = moved table are.header has.header has.read (are.header ∷ are.rest) mine.0 yours.0 (suc i) key one both (omega (arith, size, less)) same in
        let mine_too = key-there table are.header are.rest keys n key are.are here in
        none i key (omega (arith, less)) (subst (λ k. slice_get keys k ≡ Some (Some key)) (sym (one_less n)) mine_too)
        (key-there table are.header are.rest keys i key are.are there)
