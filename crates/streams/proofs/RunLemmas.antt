-- Bytes that stay in a field change its length alone.
use Rattle.std.proofs.Common.{◌≡◌, ◌∙◌, ◌≤◌, ◌<◌, ◌+◌, ◌-◌, ◌^◌, ◌∷◌, [], ℕ, suc, List, Bool, true, false, length, take, drop, take-add, get_or, refl, sym, ap, subst, arith}
use Rattle.std.specs.Prelude.{◌==◌, ◌||◌, min, nat_le, nat_lt, not}
use Rattle.std.specs.List.{fold, list_all, list_any, prefix_len}
use Rattle.std.proofs.lemmas.Bool.Decides.{nat_tests}
use Rattle.std.proofs.lemmas.List.Sums.{fold-append, prefix_len_is}
use Rattle.std.proofs.lemmas.Bool.{and_parts, and_from}
use Rattle.basics.proofs.Lists.{front_passes}
use Rattle.streams.specs.Bounds.{checked, ends_line, field_limit, fields_limit, in_field, is_outside, is_quote, moved, place_after, place_outside, record_limit, tally_after}
use Rattle.streams.specs.FieldRuns.{all_stay, is_plain, place_in_field, stays}
use Rattle.streams.specs.declared.tallies.Place.{Place}
use Rattle.streams.specs.declared.tallies.Place.TheVariants as at
use Rattle.streams.specs.declared.tallies.Tally.{Tally}

-- ---- places

plain-outside : (b : ℕ) (c q e : Bool) → (b == 44) ≡ c → (b == 34) ≡ q → ends_line b ≡ e → is_plain b ≡ true → (place_outside b ≡ at.Unquoted) × ((b == 34) ≡ false)
plain-outside b false false false c q e h = (rw (c, e) refl, q)
plain-outside b true x y c q e h = cc (rw c at h)
plain-outside b false true y c q e h = cc (rw (c, q) at h)
plain-outside b false false true c q e h = cc (rw (c, q, e) at h)

outside : (b : ℕ) → is_plain b ≡ true → (place_outside b ≡ at.Unquoted) × ((b == 34) ≡ false)
outside b h = plain-outside b (b == 44) (b == 34) (ends_line b) refl refl refl h

in-quotes : (b : ℕ) (q : Bool) → (b == 34) ≡ q → not (b == 34) ≡ true → place_after at.Quoted b ≡ at.Quoted
in-quotes b false q h = rw q refl
in-quotes b true q h = cc (rw q at h)

stay-place : (p : Place) (b : ℕ) → stays p b ≡ true → place_after p b ≡ place_in_field p
stay-place at.RecordStart b h = let o = outside b h in rw o.1 o.0
stay-place at.FieldStart b h = let o = outside b h in rw o.1 o.0
stay-place at.Unquoted b h = (outside b h).0
stay-place at.Quoted b h = in-quotes b (b == 34) refl h
stay-place at.Start b h = cc h
stay-place at.FirstMark b h = cc h
stay-place at.SecondMark b h = cc h
stay-place at.QuoteInQuotes b h = cc h

moved-in-field : (t : Tally) (p : Place) → moved t (place_in_field p) ≡ in_field t (place_in_field p)
moved-in-field t at.RecordStart = refl
moved-in-field t at.FieldStart = refl
moved-in-field t at.Unquoted = refl
moved-in-field t at.Quoted = refl
moved-in-field t at.Start = refl
moved-in-field t at.FirstMark = refl
moved-in-field t at.SecondMark = refl
moved-in-field t at.QuoteInQuotes = refl

same-place : (p : Place) → place_in_field (place_in_field p) ≡ place_in_field p
same-place at.RecordStart = refl
same-place at.FieldStart = refl
same-place at.Unquoted = refl
same-place at.Quoted = refl
same-place at.Start = refl
same-place at.FirstMark = refl
same-place at.SecondMark = refl
same-place at.QuoteInQuotes = refl

stay-again : (p : Place) (b : ℕ) (rest : List ℕ) → stays p b ≡ true → all_stay p rest ≡ true → all_stay (place_in_field p) rest ≡ true
stay-again at.RecordStart b rest h all = all
stay-again at.FieldStart b rest h all = all
stay-again at.Unquoted b rest h all = all
stay-again at.Quoted b rest h all = all
stay-again at.Start b rest h all = cc h
stay-again at.FirstMark b rest h all = cc h
stay-again at.SecondMark b rest h all = cc h
stay-again at.QuoteInQuotes b rest h all = cc h

-- ---- lengths

-- the tally with these lengths, compared with their limits
abbrev made : Place → Bool → ℕ → ℕ → ℕ → Tally
made place past f e r = checked (record { place = place; field_bytes = f; ended_fields = e; record_bytes = r; is_past = past })

-- a length after so many bytes more
abbrev pub more_by : ℕ → ℕ → ℕ
more_by n x = min (x + n) (2 ^ 64 - 1)

-- the tally after so many bytes that stay
abbrev pub after : Tally → ℕ → Tally
after t n = made (place_in_field t.place) t.is_past (more_by n t.field_bytes) t.ended_fields (more_by n t.record_bytes)

pub more-twice : (x n : ℕ) → more_by n (more_by 1 x) ≡ more_by (suc n) x
more-twice x n = omega arith

grown : (x n : ℕ) → more_by 1 x ≤ more_by (suc n) x
grown x n = omega arith

-- what is past a limit is so with greater lengths
past-once : (past : Bool) (a b c x1 x2 y z1 z2 : ℕ) → x1 ≤ x2 → z1 ≤ z2
    → ((past || (nat_lt a x1 || nat_le b y || nat_lt c z1)) || (nat_lt a x2 || nat_le b y || nat_lt c z2)) ≡ (past || (nat_lt a x2 || nat_le b y || nat_lt c z2))
past-once true a b c x1 x2 y z1 z2 f g = refl
past-once false a b c x1 x2 y z1 z2 f g = grind (arith, nat_tests)

step : (t : Tally) (b : ℕ) → stays t.place b ≡ true → tally_after t b ≡ after t 1
step t b h = ap (λ p. checked (moved t p)) (stay-place t.place b h) ∙ ap checked (moved-in-field t t.place)

twice : (t : Tally) (n : ℕ) → after (after t 1) n ≡ after t (suc n)
twice t n =
    let f = t.field_bytes in
    let e = t.ended_fields in
    let r = t.record_bytes in
    let x = nat_lt field_limit (more_by 1 f) || nat_le fields_limit e || nat_lt record_limit (more_by 1 r) in
    let again = place_in_field (place_in_field t.place) in
    let past = t.is_past || x in
    ap (λ y. made again past y e (more_by n (more_by 1 r))) (more-twice f n)
    ∙ ap (λ y. made again past (more_by (suc n) f) e y) (more-twice r n)
    ∙ ap (λ y. made y past (more_by (suc n) f) e (more_by (suc n) r)) (same-place t.place)
    ∙ ap (λ y. record { place = place_in_field t.place; field_bytes = more_by (suc n) f; ended_fields = e; record_bytes = more_by (suc n) r; is_past = y })
    (past-once t.is_past field_limit fields_limit record_limit (more_by 1 f) (more_by (suc n) f) e (more_by 1 r) (more_by (suc n) r) (grown f n) (grown r n))

pub run : (t : Tally) (bytes : List ℕ) (b : ℕ) → all_stay t.place (b ∷ bytes) ≡ true → fold tally_after t (b ∷ bytes) ≡ after t (length (b ∷ bytes))
run t [] b all = step t b (and_parts (stays t.place b) true all).0
run t (c ∷ rest) b all =
    let parts = and_parts (stays t.place b) (all_stay t.place (c ∷ rest)) all in
    let first = step t b parts.0 in
    ap (λ u. fold tally_after u (c ∷ rest)) first ∙ run (after t 1) rest c (stay-again t.place b (c ∷ rest) parts.0 parts.1) ∙ twice t (length (c ∷ rest))

-- the same of any number of bytes from one on
none : (n : ℕ) → 0 < n → length {A = ℕ} [] ≡ n → n ≡ suc n
none n some size = omega (arith, some, size)

pub run-of : (t : Tally) (n : ℕ) (bytes : List ℕ) → 0 < n → length bytes ≡ n → all_stay t.place bytes ≡ true → after t n ≡ fold tally_after t bytes
run-of t n [] some size all = cc (none n some size)
run-of t n (b ∷ rest) some size all = ap (after t) (sym size) ∙ sym (run t rest b all)

-- outside quotes plain bytes stay
pub plain-stay : (p : Place) (bytes : List ℕ) → is_outside p ≡ true → list_all is_plain bytes ≡ true → all_stay p bytes ≡ true
plain-stay at.RecordStart bytes o all = all
plain-stay at.FieldStart bytes o all = all
plain-stay at.Unquoted bytes o all = all
plain-stay at.Quoted bytes o all = cc o
plain-stay at.Start bytes o all = cc o
plain-stay at.FirstMark bytes o all = cc o
plain-stay at.SecondMark bytes o all = cc o
plain-stay at.QuoteInQuotes bytes o all = cc o

-- bytes that stay in quotes are no quotes
neither : (a b : Bool) → not a ≡ true → b ≡ false → (a || b) ≡ false
neither false b e f = f
neither true b e f = cc e

pub no-quotes : (bytes : List ℕ) → all_stay at.Quoted bytes ≡ true → list_any is_quote bytes ≡ false
no-quotes [] all = refl
no-quotes (b ∷ rest) all =
    let parts = and_parts (not (b == 34)) (all_stay at.Quoted rest) all in
    neither (b == 34) (list_any is_quote rest) parts.0 (no-quotes rest parts.1)

-- and the other way round
no-parts : (a b : Bool) → (a || b) ≡ false → (not a ≡ true) × (b ≡ false)
no-parts false b e = (refl, e)
no-parts true b e = cc e

pub stay-unquoted : (bytes : List ℕ) → list_any is_quote bytes ≡ false → all_stay at.Quoted bytes ≡ true
stay-unquoted [] none = refl
stay-unquoted (b ∷ rest) none =
    let parts = no-parts (b == 34) (list_any is_quote rest) none in
    and_from (not (b == 34)) (all_stay at.Quoted rest) parts.0 (stay-unquoted rest parts.1)

-- the bytes before the first quote, or all of them
refuted : (q : Bool) → ¬ (q ≡ true) → not q ≡ true
refuted false none = refl
refuted true none = absurd (none refl)

pub count-before : (bytes : List ℕ) (place : ℕ) → place ≤ length bytes → ((k : ℕ) → 0 ≤ k → k < place → ¬ ((get_or bytes k 0 == 34) ≡ true))
    → (place < length bytes → (get_or bytes place 0 == 34) ≡ true) → place ≡ prefix_len (stays at.Quoted) bytes
count-before bytes place within none there =
    sym (prefix_len_is (stays at.Quoted) bytes place 0 within (λ k lt. refuted (get_or bytes k 0 == 34) (none k (omega arith) lt)) (λ lt. ap not (there lt)))

pub none-before : (bytes : List ℕ) (place : ℕ) → place ≡ prefix_len (stays at.Quoted) bytes → list_any is_quote (take place bytes) ≡ false
none-before bytes place e =
    subst (λ n. list_any is_quote (take n bytes) ≡ false) (sym e) (no-quotes (take (prefix_len (stays at.Quoted) bytes) bytes) (front_passes (stays at.Quoted) bytes))

-- the tally after the bytes up to a place, and after some more
pub more : (t u : Tally) (bytes rest some : List ℕ) (at count : ℕ) → u ≡ fold tally_after t (take at bytes) → rest ≡ drop at bytes → some ≡ take count rest
    → fold tally_after u some ≡ fold tally_after t (take (at + count) bytes)
more t u bytes rest some at count e f g =
    ap (fold tally_after u) g ∙ ap (λ v. fold tally_after v (take count rest)) e ∙ ap (λ l. fold tally_after (fold tally_after t (take at bytes)) (take count l)) f
    ∙ sym (fold-append tally_after t (take at bytes) (take count (drop at bytes))) ∙ ap (fold tally_after t) (sym (take-add at count bytes))
