-- What is merged by keys has the same rows, and ascends where no two have the same keys.
use Rattle.std.proofs.Common.{◌≡◌, ◌∙◌, ◌⊎◌, ◌+◌, ◌<ℤ◌, ◌||◌, ◌&&◌, ◌++◌, ap, ap₂, arith, cond, inl, inr, int_lt, not, refl}
use Rattle.std.proofs.Common.{subst, sym, Bool, true, false}
use Rattle.std.proofs.Common.{ℕ, zero, suc, ℤ, List, [], ◌∷◌, Option, None, Some, append-nil}
use borrow.Author.Differences.{ints}
use Rattle.std.specs.Prelude.{IsPermutation, if◌then◌else◌, take}
use Rattle.std.specs.List.{AllPairs, AllByRecursion, IsDistinct, flat_map}
use Rattle.std.specs.Ordering.{int_eq}
use Rattle.std.proofs.lemmas.Bool.{false≢true, or_parts}
use Rattle.std.proofs.lemmas.List.Sorted.{IsPermutation-cons, IsPermutation-middle, IsPermutation-refl, IsPermutation-sym}
use Rattle.std.proofs.lemmas.List.Sorted.{IsPermutation-trans}
use Rattle.std.proofs.lemmas.Map.Keys.{IsDistinct-IsPermutation, IsDistinct-head, IsDistinct-tail}
use Rattle.basics.proofs.Signs.{less_from, less_yes}
use Rattle.basics.proofs.Tests.{equal_from, equal_yes}
use Rattle.geometry_model.specs.Geometries.{Geometry}
use Rattle.table_laws.proofs.TableLists.{Each, Pairs, all-pairs, each-weaker, pairs-all}
use Rattle.table_laws.specs.Orders.{ComesBefore}
use Rattle.table_model.specs.Loading.{key_of}
use Rattle.table_model.specs.Meanings.{Row, up_to}
use Rattle.tiles.specs.KeyMerges.{by_keys, comes_before, insert_by_keys}

abbrev Rows : Type 0
Rows = List (Row Geometry)

-- ---- the test

-- what the test finds is so
is_before : (keys : List ℕ) (a b : Rows) → comes_before keys a b ≡ true → ComesBefore keys a b
is_before [] a b h = absurd (false≢true h)
is_before (key ∷ keys) [] b h = absurd (false≢true h)
is_before (key ∷ keys) (x ∷ xs) [] h = absurd (false≢true h)
is_before (key ∷ keys) (x ∷ xs) (y ∷ ys) h =
    go (int_lt (key_of key x) (key_of key y)) (int_eq (key_of key x) (key_of key y)) refl refl (is_before keys xs ys) h
  where
    go : (less same : Bool) → int_lt (key_of key x) (key_of key y) ≡ less → int_eq (key_of key x) (key_of key y) ≡ same
        → (comes_before keys xs ys ≡ true → ComesBefore keys xs ys) → (less || (same && comes_before keys xs ys)) ≡ true
        → (key_of key x <ℤ key_of key y) ⊎ ((key_of key x ≡ key_of key y) × ComesBefore keys xs ys)
    go true same l e rest h = inl (less_from (key_of key x) (key_of key y) l)
    go false true l e rest h = inr (equal_from (key_of key x) (key_of key y) e, rest h)
    go false false l e rest h = absurd (false≢true h)

-- and what is so it finds
finds : (keys : List ℕ) (a b : Rows) → ComesBefore keys a b → comes_before keys a b ≡ true
finds [] a b h = absurd h
finds (key ∷ keys) [] b h = absurd h
finds (key ∷ keys) (x ∷ xs) [] h = absurd h
finds (key ∷ keys) (x ∷ xs) (y ∷ ys) (inl less) =
    ap (λ l. l || (int_eq (key_of key x) (key_of key y) && comes_before keys xs ys)) (less_yes (key_of key x) (key_of key y) less)
finds (key ∷ keys) (x ∷ xs) (y ∷ ys) (inr (same, rest)) =
    ap₂ (λ e r. int_lt (key_of key x) (key_of key y) || (e && r)) (equal_yes (key_of key x) (key_of key y) same)
    (finds keys xs ys rest)
    ∙ last (int_lt (key_of key x) (key_of key y))
  where
    last : (b : Bool) → (b || true) ≡ true
    last true = refl
    last false = refl

-- the order goes on
goes_on : (keys : List ℕ) (a b c : Rows) → ComesBefore keys a b → ComesBefore keys b c → ComesBefore keys a c
goes_on [] a b c h k = h
goes_on (key ∷ keys) [] b c h k = h
goes_on (key ∷ keys) (x ∷ xs) [] c h k = absurd h
goes_on (key ∷ keys) (x ∷ xs) (y ∷ ys) [] h k = k
goes_on (key ∷ keys) (x ∷ xs) (y ∷ ys) (z ∷ zs) h k = go (goes_on keys xs ys zs) h k
  where
    go : (ComesBefore keys xs ys → ComesBefore keys ys zs → ComesBefore keys xs zs)
        → (key_of key x <ℤ key_of key y) ⊎ ((key_of key x ≡ key_of key y) × ComesBefore keys xs ys)
        → (key_of key y <ℤ key_of key z) ⊎ ((key_of key y ≡ key_of key z) × ComesBefore keys ys zs)
        → (key_of key x <ℤ key_of key z) ⊎ ((key_of key x ≡ key_of key z) × ComesBefore keys xs zs)
    go rest (inl l) (inl m) = inl (omega (arith, ints, l, m))
    go rest (inl l) (inr e) = inl (subst (λ n. key_of key x <ℤ n) e.0 l)
    go rest (inr e) (inl m) = inl (subst (λ n. n <ℤ key_of key z) (sym e.0) m)
    go rest (inr e) (inr f) = inr (e.0 ∙ f.0, rest e.1 f.1)

-- ---- merging

-- an insertion only adds
inserted : (keys : List ℕ) (x : Rows) (xs : List Rows) → IsPermutation (x ∷ xs) (insert_by_keys keys x xs)
inserted keys x [] = IsPermutation-refl (x ∷ [])
inserted keys x (y ∷ ys) = go (comes_before keys x y) (inserted keys x ys)
  where
    go : (b : Bool) → IsPermutation (x ∷ ys) (insert_by_keys keys x ys)
        → IsPermutation (x ∷ y ∷ ys) (if b then x ∷ y ∷ ys else y ∷ insert_by_keys keys x ys)
    go true p = IsPermutation-refl (x ∷ y ∷ ys)
    go false p = IsPermutation-trans (x ∷ y ∷ ys) (y ∷ x ∷ ys) (y ∷ insert_by_keys keys x ys)
        (IsPermutation-sym (y ∷ x ∷ ys) (x ∷ y ∷ ys) (IsPermutation-middle (y ∷ []) x ys))
        (IsPermutation-cons y (x ∷ ys) (insert_by_keys keys x ys) p)

-- so what is merged has the same rows
pub same_rows : (keys : List ℕ) (xs : List Rows) → IsPermutation xs (by_keys keys xs)
unfolding by_keys
same_rows keys [] = IsPermutation-refl []
same_rows keys (x ∷ xs) =
    IsPermutation-trans (x ∷ xs) (x ∷ by_keys keys xs) (insert_by_keys keys x (by_keys keys xs))
    (IsPermutation-cons x xs (by_keys keys xs) (same_rows keys xs)) (inserted keys x (by_keys keys xs))

-- two choices of rows have no order
abbrev alike : List ℕ → Rows → Rows → Bool
alike keys a b = not (comes_before keys a b || comes_before keys b a)

-- they have one
abbrev Ordered : List ℕ → Rows → Rows → Type 0
Ordered keys a b = alike keys a b ≡ false

-- what holds of all holds of those with one more, whatever its place
each_insert : (P : Rows → Type 0) (keys : List ℕ) (x : Rows) (xs : List Rows) → P x → Each P xs
    → Each P (insert_by_keys keys x xs)
each_insert P keys x [] p h = (p, tt)
each_insert P keys x (y ∷ ys) p h = go (comes_before keys x y) (each_insert P keys x ys p h.1)
  where
    go : (b : Bool) → Each P (insert_by_keys keys x ys) → Each P (if b then x ∷ y ∷ ys else y ∷ insert_by_keys keys x ys)
    go true more = (p, h)
    go false more = (h.0, more)

each_by_keys : (P : Rows → Type 0) (keys : List ℕ) (xs : List Rows) → Each P xs → Each P (by_keys keys xs)
unfolding by_keys
each_by_keys P keys [] h = tt
each_by_keys P keys (x ∷ xs) h = each_insert P keys x (by_keys keys xs) h.0 (each_by_keys P keys xs h.1)

-- a choice that has an order with each leaves ascending ones ascending
ascends_with : (keys : List ℕ) (x : Rows) (xs : List Rows) → Each (Ordered keys x) xs → Pairs (ComesBefore keys) xs
    → Pairs (ComesBefore keys) (insert_by_keys keys x xs)
ascends_with keys x [] o h = (tt, tt)
ascends_with keys x (y ∷ ys) o h = go (comes_before keys x y) refl (ascends_with keys x ys o.1 h.1)
  where
    back : (b c : Bool) → b ≡ false → not (b || c) ≡ false → c ≡ true
    back true c e n = absurd (false≢true (sym e))
    back false true e n = refl
    back false false e n = absurd (false≢true (sym n))

    go : (b : Bool) → comes_before keys x y ≡ b → Pairs (ComesBefore keys) (insert_by_keys keys x ys)
        → Pairs (ComesBefore keys) (if b then x ∷ y ∷ ys else y ∷ insert_by_keys keys x ys)
    go true is more =
        let less = is_before keys x y is in (
          (less, each-weaker (ComesBefore keys y) (ComesBefore keys x) (λ z l. goes_on keys x y z less l) ys h.0),
          h,
        )
    go false is more = (
      each_insert (ComesBefore keys y) keys x ys
          (is_before keys y x (back (comes_before keys x y) (comes_before keys y x) is o.0)) h.0,
      more,
    )

-- so what is merged ascends
ascending : (keys : List ℕ) (xs : List Rows) → Pairs (Ordered keys) xs → Pairs (ComesBefore keys) (by_keys keys xs)
unfolding by_keys
ascending keys [] h = tt
ascending keys (x ∷ xs) h = ascends_with keys x (by_keys keys xs) (each_by_keys (Ordered keys x) keys xs h.0)
    (ascending keys xs h.1)

-- ---- parts

-- the test for an order doesn't see which of two comes first
turned : (keys : List ℕ) (a b : Rows) → alike keys a b ≡ alike keys b a
turned keys a b = ap not (go (comes_before keys a b) (comes_before keys b a))
  where
    go : (p q : Bool) → (p || q) ≡ (q || p)
    go true true = refl
    go true false = refl
    go false true = refl
    go false false = refl

-- ascending choices have an order, each with each
ordered : (keys : List ℕ) (xs : List Rows) → Pairs (ComesBefore keys) xs → IsDistinct (alike keys) xs
unfolding IsDistinct
ordered keys [] h = tt
ordered keys (x ∷ xs) h = (one xs h.0, ordered keys xs h.1)
  where
    one : (ys : List Rows) → Each (ComesBefore keys x) ys → AllByRecursion (λ y. alike keys x y ≡ false) ys
    one [] h = tt
    one (y ∷ ys) h = (ap (λ b. not (b || comes_before keys y x)) (finds keys x y h.0), one ys h.1)

-- and so have others of the same rows
in_pairs : (keys : List ℕ) (xs : List Rows) → IsDistinct (alike keys) xs → Pairs (Ordered keys) xs
in_pairs keys [] h = tt
in_pairs keys (x ∷ xs) h =
    (one xs (IsDistinct-head (alike keys) x xs h), in_pairs keys xs (IsDistinct-tail (alike keys) x xs h))
  where
    one : (ys : List Rows) → AllByRecursion (λ y. alike keys x y ≡ false) ys → Each (Ordered keys x) ys
    one [] h = tt
    one (y ∷ ys) h = (h.0, one ys h.1)

-- what holds of all of two lists holds of the first ones of the first, and of less of the second
each_front : {X : Type 0} (P : X → Type 0) (n : ℕ) (xs ys zs : List X) → (Each P ys → Each P zs) → Each P (xs ++ ys)
    → Each P (take n xs ++ zs)
each_front P zero [] ys zs less h = less h
each_front P (suc n) [] ys zs less h = less h
each_front P zero (x ∷ xs) ys zs less h = each_front P zero xs ys zs less h.1
each_front P (suc n) (x ∷ xs) ys zs less h = (h.0, each_front P n xs ys zs less h.1)

pairs_front : {X : Type 0} (R : X → X → Type 0) (n : ℕ) (xs ys zs : List X) → ((P : X → Type 0) → Each P ys → Each P zs)
    → (Pairs R ys → Pairs R zs) → Pairs R (xs ++ ys) → Pairs R (take n xs ++ zs)
pairs_front R zero [] ys zs less fewer h = fewer h
pairs_front R (suc n) [] ys zs less fewer h = fewer h
pairs_front R zero (x ∷ xs) ys zs less fewer h = pairs_front R zero xs ys zs less fewer h.1
pairs_front R (suc n) (x ∷ xs) ys zs less fewer h =
    (each_front (R x) n xs ys zs (less (R x)) h.0, pairs_front R n xs ys zs less fewer h.1)

each_fronts : {C X : Type 0} (P : X → Type 0) (n : ℕ) (f : C → List X) (cs : List C) → Each P (flat_map f cs)
    → Each P (flat_map (λ c. take n (f c)) cs)
each_fronts P n f [] h = h
each_fronts P n f (c ∷ cs) h =
    each_front P n (f c) (flat_map f cs) (flat_map (λ d. take n (f d)) cs) (each_fronts P n f cs) h

pairs_fronts : {C X : Type 0} (R : X → X → Type 0) (n : ℕ) (f : C → List X) (cs : List C) → Pairs R (flat_map f cs)
    → Pairs R (flat_map (λ c. take n (f c)) cs)
pairs_fronts R n f [] h = h
pairs_fronts R n f (c ∷ cs) h =
    pairs_front R n (f c) (flat_map f cs) (flat_map (λ d. take n (f d)) cs) (λ P. each_fronts P n f cs) (pairs_fronts R n f cs) h

limited_pairs : {C X : Type 0} (R : X → X → Type 0) (limit : Option ℕ) (f : C → List X) (cs : List C) → Pairs R (flat_map f cs)
    → Pairs R (flat_map (λ c. up_to limit (f c)) cs)
limited_pairs R None f cs h = h
limited_pairs R (Some n) f cs h = pairs_fronts R n f cs h

-- parts of ascending rows, each up to a limit, ascend where they are merged
pub merged_ascend : {C : Type 0} (keys : List ℕ) (limit : Option ℕ) (f : C → List Rows) (cs : List C) (whole : List Rows)
    → AllPairs (ComesBefore keys) whole → IsPermutation (flat_map f cs) whole
    → AllPairs (ComesBefore keys) (by_keys keys (flat_map (λ c. up_to limit (f c)) cs))
merged_ascend keys limit f cs whole ascends same =
    let of_whole = ordered keys whole (all-pairs (ComesBefore keys) whole ascends) in
    let of_parts = IsDistinct-IsPermutation (alike keys) (turned keys) whole (flat_map f cs)
    (IsPermutation-sym (flat_map f cs) whole same)
    of_whole in
    pairs-all (ComesBefore keys) (by_keys keys (flat_map (λ c. up_to limit (f c)) cs))
    (ascending keys (flat_map (λ c. up_to limit (f c)) cs)
    (limited_pairs (Ordered keys) limit f cs (in_pairs keys (flat_map f cs) of_parts)))
