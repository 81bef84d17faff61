-- Rows by ascending key.
use Rattle.std.specs.Prelude.{◌≡◌, ◌≢◌, ◌+◌, ◌<ℤ◌, ◌≤ℤ◌, ℕ, ℤ, Bool, true, false, cond, if◌then◌else◌, int_lt, List, [], ◌∷◌, Option, Some, None, map, refl, IsPermutation}
use Rattle.std.proofs.Common.{◌∙◌, ◌⊎◌, arith, inl, inr, sym}
use borrow.Author.Differences.{ints}
use Rattle.std.proofs.lemmas.Bool.{false≢true, or_parts}
use Rattle.std.proofs.lemmas.List.Sorted.{IsPermutation-cons, IsPermutation-middle, IsPermutation-refl, IsPermutation-sym, IsPermutation-trans}
use Rattle.std.specs.List.{list_any}
use Rattle.std.specs.Ordering.{int_eq}
use Rattle.basics.proofs.Signs.{less_from, not_less_from, three_ways}
use Rattle.basics.proofs.Tests.{equal_yes}
use Rattle.basics.proofs.Orders.{less_less}
use Rattle.table_model.specs.Loading.{by_key, double_from, double_key, insert_by_key, key_of}
use Rattle.table_model.specs.Meanings.{Row}
use Rattle.table_laws.proofs.TableLists.{Each, Pairs, each-weaker, pairs-map}

-- two keys that the test shows apart differ
pub differ : (a b : ℤ) → int_eq b a ≡ false → a ≢ b
differ a b h = λ p. false≢true (sym h ∙ equal_yes b a (sym p))

-- where no key is double they all differ, also from the earlier ones
pub apart : (earlier : List ℤ) (n : ℕ) (keys : List ℤ) → double_from earlier n keys ≡ None
    → Each (λ k. list_any (int_eq k) earlier ≡ false) keys × Pairs (λ a b. a ≢ b) keys
apart earlier n [] e = (tt, tt)
apart earlier n (key ∷ keys) e = go (list_any (int_eq key) earlier) refl e (apart (key ∷ earlier) (n + 1) keys)
  where
    go : (b : Bool) → list_any (int_eq key) earlier ≡ b → ◌≡◌ {A = Option ℕ} (cond b (Some n) (double_from (key ∷ earlier) (n + 1) keys)) None
        → (double_from (key ∷ earlier) (n + 1) keys ≡ None → Each (λ k. list_any (int_eq k) (key ∷ earlier) ≡ false) keys × Pairs (λ a b. a ≢ b) keys)
        → Each (λ k. list_any (int_eq k) earlier ≡ false) (key ∷ keys) × Pairs (λ a b. a ≢ b) (key ∷ keys)
    go true is e more = cc e
    go false is e more =
        let rest = more e in (
          (
            is,
            each-weaker (λ k. list_any (int_eq k) (key ∷ earlier) ≡ false) (λ k. list_any (int_eq k) earlier ≡ false)
                (λ k h. (or_parts (int_eq k key) (list_any (int_eq k) earlier) h).1) keys rest.0,
          ),
          (
            each-weaker (λ k. list_any (int_eq k) (key ∷ earlier) ≡ false) (λ k. key ≢ k)
                (λ k h. differ key k ((or_parts (int_eq k key) (list_any (int_eq k) earlier) h).0)) keys rest.0,
            rest.1,
          ),
        )

-- ---- the insertion of a row

-- a row that is inserted brings its own fact and leaves those of the others
each-insert : {G : Type 0} (P : Row G → Type 0) (key : ℕ) (row : Row G) (rows : List (Row G)) → P row → Each P rows → Each P (insert_by_key key row rows)
each-insert P key row [] p h = (p, tt)
each-insert P key row (other ∷ rows) p h = go (int_lt (key_of key row) (key_of key other)) (each-insert P key row rows p h.1)
  where
    go : (b : Bool) → Each P (insert_by_key key row rows) → Each P (if b then row ∷ other ∷ rows else other ∷ insert_by_key key row rows)
    go true more = (p, h)
    go false more = (h.0, more)

-- so what holds of each row still does where they are by key
pub each-by_key : {G : Type 0} (P : Row G → Type 0) (key : ℕ) (rows : List (Row G)) → Each P rows → Each P (by_key key rows)
unfolding by_key
each-by_key P key [] h = tt
each-by_key P key (row ∷ rows) h = each-insert P key row (by_key key rows) h.0 (each-by_key P key rows h.1)

-- each key is below the later ones
abbrev pub Rises : {G : Type 0} → ℕ → List (Row G) → Type 0
Rises key rows = Pairs (λ a b. key_of key a <ℤ key_of key b) rows

-- a key that isn't below another, and isn't equal to it, is above it
above : (a b : ℤ) → b ≤ℤ a → a ≢ b → b <ℤ a
above a b h apart = go (three_ways b a)
  where
    below : b ≤ℤ a → a <ℤ b → ⊥
    below h l = omega (arith, ints)

    go : (b <ℤ a) ⊎ ((b ≡ a) ⊎ (a <ℤ b)) → b <ℤ a
    go (inl l) = l
    go (inr (inl e)) = absurd (apart (sym e))
    go (inr (inr l)) = absurd (below h l)

-- a row of a new key, put before the first greater one, leaves the keys rising: those before it are smaller
rises-insert : {G : Type 0} (key : ℕ) (row : Row G) (rows : List (Row G)) → Each (λ r. key_of key row ≢ key_of key r) rows → Rises key rows → Rises key (insert_by_key key row rows)
rises-insert key row [] differs h = (tt, tt)
rises-insert key row (other ∷ rows) differs h =
    go (int_lt (key_of key row) (key_of key other)) refl (rises-insert key row rows differs.1 h.1)
  where
    go : (b : Bool) → int_lt (key_of key row) (key_of key other) ≡ b → Rises key (insert_by_key key row rows)
        → Rises key (if b then row ∷ other ∷ rows else other ∷ insert_by_key key row rows)
    go true is more =
        let less = less_from (key_of key row) (key_of key other) is in (
          (
            less,
            each-weaker (λ r. key_of key other <ℤ key_of key r) (λ r. key_of key row <ℤ key_of key r)
                (λ r l. less_less (key_of key row) (key_of key other) (key_of key r) less l) rows h.0,
          ),
          h,
        )
    go false is more = (
      each-insert (λ r. key_of key other <ℤ key_of key r) key row rows
          (above (key_of key row) (key_of key other) (not_less_from (key_of key row) (key_of key other) is) differs.0) h.0,
      more,
    )

-- rows whose keys differ are put one by one into rising rows, and these stay rising
rises-by_key : {G : Type 0} (key : ℕ) (rows : List (Row G)) → Pairs (λ a b. key_of key a ≢ key_of key b) rows → Rises key (by_key key rows)
unfolding by_key
rises-by_key key [] h = tt
rises-by_key key (row ∷ rows) h =
    rises-insert key row (by_key key rows) (each-by_key (λ r. key_of key row ≢ key_of key r) key rows h.0) (rises-by_key key rows h.1)

-- rows without double key rise
pub rises : {G : Type 0} (key : ℕ) (rows : List (Row G)) → double_key (map (key_of key) rows) ≡ None → Rises key (by_key key rows)
unfolding double_key
rises key rows none = rises-by_key key rows (pairs-map (λ a b. a ≢ b) (key_of key) rows ((apart [] 1 (map (key_of key) rows) none).1))

-- ---- the same rows

-- an insertion only moves the row among the others
permuted-insert : {G : Type 0} (key : ℕ) (row : Row G) (rows : List (Row G)) → IsPermutation (row ∷ rows) (insert_by_key key row rows)
permuted-insert key row [] = IsPermutation-refl (row ∷ [])
permuted-insert key row (other ∷ rows) = go (int_lt (key_of key row) (key_of key other)) (permuted-insert key row rows)
  where
    go : (b : Bool) → IsPermutation (row ∷ rows) (insert_by_key key row rows)
        → IsPermutation (row ∷ other ∷ rows) (if b then row ∷ other ∷ rows else other ∷ insert_by_key key row rows)
    go true more = IsPermutation-refl (row ∷ other ∷ rows)
    go false more =
        IsPermutation-trans (row ∷ other ∷ rows) (other ∷ row ∷ rows) (other ∷ insert_by_key key row rows)
        (IsPermutation-sym (other ∷ row ∷ rows) (row ∷ other ∷ rows) (IsPermutation-middle (other ∷ []) row rows))
        (IsPermutation-cons other (row ∷ rows) (insert_by_key key row rows) more)

-- rows by key are the same rows in another order: each was inserted once
pub permuted : {G : Type 0} (key : ℕ) (rows : List (Row G)) → IsPermutation rows (by_key key rows)
unfolding by_key
permuted key [] = IsPermutation-refl []
permuted key (row ∷ rows) =
    IsPermutation-trans (row ∷ rows) (row ∷ by_key key rows) (insert_by_key key row (by_key key rows))
    (IsPermutation-cons row rows (by_key key rows) (permuted key rows)) (permuted-insert key row (by_key key rows))
