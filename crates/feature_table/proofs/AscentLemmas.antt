-- Keys that ascend: none of them comes twice, and their places are in their order.
use Rattle.std.proofs.Common.{◌≡◌, ◌∙◌, ◌+◌, ◌<◌, ℕ, ℤ, pos, Bool, true, false, List, [], ◌∷◌, None, ap, ap₂, arith, get_or, length, map, refl, subst, sym}
use Rattle.std.specs.Prelude.{IsPermutation, IsSortedByKey, int_lt}
use Rattle.std.proofs.lemmas.Bool.Decides.{Decides-int_eq}
use Rattle.std.proofs.lemmas.Cmp.{int_cmp_total, int_eq_equiv}
use Rattle.std.proofs.lemmas.List.{get_or-map, length-map}
use Rattle.std.proofs.lemmas.List.Sorted.{IsPermutation-map, IsPermutation-refl, IsPermutation-sym}
use Rattle.std.proofs.lemmas.Map.Keys.{IsDistinct-IsPermutation, IsDistinct-from_sorted, sorted_from_all_adjacent}
use Rattle.std.proofs.lemmas.Map.Made.{AllPairs-from_IsDistinct}
use Rattle.std.proofs.lemmas.List.FromFn.{get_or-range_with_len, length-range_with_len}
use Rattle.std.specs.List.{AllAdjacentBelow, range_with_len}
use Rattle.std.specs.List.Sorted.{IsStrictlySortedBy}
use Rattle.std.specs.Ordering.{int_cmp, int_eq, is_lt}
use Rattle.feature_table.proofs.OrderLemmas.{less-order, one-way}
use Rattle.feature_table.specs.KeyPlaces.{key_at}
use Rattle.table_laws.proofs.Doubles.{none_is_double}
use Rattle.table_model.specs.Loading.{double_key}

-- each key is below the next
abbrev pub Ascend : {X : Type 0} → (X → ℤ) → List X → Type 0
Ascend number xs = AllAdjacentBelow (λ a b. true ≡ int_lt (number a) (number b)) xs (length xs)

-- then each is below all later ones
strict : {X : Type 0} (number : X → ℤ) (xs : List X) → Ascend number xs → IsStrictlySortedBy int_cmp (map number xs)
unfolding IsStrictlySortedBy
strict number [] up = tt
strict {X = X} number (x ∷ xs) up =
    let size : length (map number (x ∷ xs)) ≡ length (x ∷ xs) = simp length-map in
    sorted_from_all_adjacent int_cmp_total (map number (x ∷ xs)) (pos 0) (λ k h.
    let later : k + 1 < length (x ∷ xs) = omega (arith, h, size) in
    let here : k < length (x ∷ xs) = omega (arith, later) in
    let key-here = get_or-map number (x ∷ xs) k x (pos 0) here in
    let key-later = get_or-map number (x ∷ xs) (k + 1) x (pos 0) later in
    ap₂ int_cmp key-here key-later ∙ less-order (number (get_or (x ∷ xs) k x)) (number (get_or (x ∷ xs) (k + 1) x)) (sym (up k x later)))

-- of keys none comes twice, where some that ascend are the same in another order
pub no_double : {X : Type 0} (number : X → ℤ) (keys : List ℤ) (xs : List X) → IsPermutation keys (map number xs) → Ascend number xs → double_key keys ≡ None
no_double number keys xs moved up =
    let apart = IsDistinct-from_sorted int_cmp (map number xs) (strict number xs up) in
    let still = IsDistinct-IsPermutation int_eq int_eq_equiv.symm (map number xs) keys (IsPermutation-sym keys (map number xs) moved) apart in
    (none_is_double keys).1 (AllPairs-from_IsDistinct Decides-int_eq keys still)

-- a key that is below another is not above it
below-first : (a b : ℤ) → int_lt a b ≡ true → is_lt (int_cmp b a) ≡ false
below-first a b e = go (int_lt b a) refl
  where
    go : (p : Bool) → int_lt b a ≡ p → is_lt (int_cmp b a) ≡ false
    go true h = absurd (one-way a b e h)
    go false h = rw (h, e) refl

same-list : {X : Type 0} (xs : List X) → map (λ x. x) xs ≡ xs
same-list [] = refl
same-list {X = X} (x ∷ xs) = ap (λ (ys : List X). x ∷ ys) (same-list xs)

-- of keys that ascend none comes twice
pub ascending_alone : (keys : List ℤ) → Ascend (λ k. k) keys → double_key keys ≡ None
ascending_alone keys up = no_double (λ k. k) keys keys (subst (IsPermutation keys) (sym (same-list keys)) (IsPermutation-refl keys)) up

-- and their places are in the keys' order already
pub ascending_places : (keys : List ℤ) → Ascend (λ k. k) keys → IsSortedByKey (key_at keys) int_cmp (range_with_len 0 (length keys))
ascending_places keys up k d low high =
    let size = length-range_with_len 0 (length keys) in
    let later : k + 1 < length keys = omega (arith, high, size) in
    let here = get_or-range_with_len 0 (length keys) k d (omega (arith, later)) in
    let next = get_or-range_with_len 0 (length keys) (k + 1) d later in
    let first : get_or (range_with_len 0 (length keys)) k d ≡ k = omega (arith, here) in
    let second : get_or (range_with_len 0 (length keys)) (k + 1) d ≡ k + 1 = omega (arith, next) in
    ap₂ (λ (p q : ℕ). is_lt (int_cmp (key_at keys p) (key_at keys q))) second first
    ∙ below-first (key_at keys k) (key_at keys (k + 1)) (sym (up k (pos 0) later))

-- the keys beside which rows are, in the order into which these were put
pub keys_moved : {R K : Type 0} (number : K → ℤ) (make : R → K) (key : R → ℤ) (xs : List R) (ks : List K) → ((r : R) → number (make r) ≡ key r) → IsPermutation (map make xs) ks
    → IsPermutation (map key xs) (map number ks)
keys_moved {R = R} number make key xs ks said moved =
    subst (λ l. IsPermutation l (map number ks)) (same xs) (IsPermutation-map number (map make xs) ks moved)
  where
    same : (xs : List R) → map number (map make xs) ≡ map key xs
    same [] = refl
    same (x ∷ xs) = ap₂ (λ (k : ℤ) (ks : List ℤ). k ∷ ks) (said x) (same xs)
