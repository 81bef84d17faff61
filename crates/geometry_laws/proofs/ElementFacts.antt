-- The polygons of an area: some of a list that passes a test, and the rings that have a number.
use Rattle.std.proofs.Common.{◌≡◌, ◌⊎◌, inl, inr, ℕ, zero, suc, ◌+◌, ◌-◌, ◌<◌, ◌≤◌, Bool, true, false, ◌||◌, List, [], ◌∷◌, length, Contains, Some, None, nat_le, slice_get, slice_index_or, if◌then◌else◌, refl, sym, ap, ◌∙◌, zero-lt-suc, suc-le-suc, le_of_suc-le-suc, leb-true, le-leb, arith}
use Rattle.std.specs.List.{list_any}
use Rattle.std.proofs.lemmas.Bool.{true≢false, or_cases}
use Rattle.geometry_model.specs.Points.{Position}
use Rattle.geometry_model.specs.Validity.{Element, IsRing}
use Rattle.geometry_model.specs.FirstFaults.{ring_of}

pub or_true : (a b : Bool) → (a ≡ true) ⊎ (b ≡ true) → a || b ≡ true
or_true true b h = refl
or_true false b (inl e) = absurd (true≢false (sym e))
or_true false b (inr e) = e

-- ---- some element of a list
-- a test that passes for some element passes for one that the list contains
pub some_from : {A : Type 0} (t : A → Bool) (xs : List A) → list_any t xs ≡ true → (x : A) × Contains xs x × (t x ≡ true)
some_from t [] h = absurd (true≢false (sym h))
some_from {A = A} t (x ∷ xs) h = go (or_cases (t x) (list_any t xs) h) (some_from t xs)
  where
    go : (t x ≡ true) ⊎ (list_any t xs ≡ true) → (list_any t xs ≡ true → (y : A) × Contains xs y × (t y ≡ true)) → (y : A) × Contains (x ∷ xs) y × (t y ≡ true)
    go (inl e) later = (x, (0, zero-lt-suc (length xs), refl), e)
    go (inr e) later = let k = later e in (k.0, (suc k.1.0, suc-le-suc k.1.1, k.1.2), k.2)

some_at : {A : Type 0} (t : A → Bool) (xs : List A) (x : A) (k : ℕ) → k < length xs → slice_index_or xs k x ≡ x → t x ≡ true → list_any t xs ≡ true
some_at t [] x k h e p = absurd (omega (arith, h))
some_at t (y ∷ ys) x zero h e p = or_true (t y) (list_any t ys) (inl (ap t e ∙ p))
some_at t (y ∷ ys) x (suc k) h e p = or_true (t y) (list_any t ys) (inr (some_at t ys x k (le_of_suc-le-suc h) e p))

-- and one that passes for a contained element passes for some
pub some_yes : {A : Type 0} (t : A → Bool) (xs : List A) (x : A) → Contains xs x → t x ≡ true → list_any t xs ≡ true
some_yes t xs x c p = some_at t xs x c.0 c.1 c.2 p

-- ---- the ring of a polygon that has a number
-- a ring that is found by its number is as many places behind the first as the numbers differ
pub ring_from : (e : Element) (n : ℕ) (ring : List Position) → ring_of e n ≡ Some ring → IsRing e (n - e.first) n ring
ring_from e n ring h = go (nat_le e.first n) refl h
  where
    go : (b : Bool) → nat_le e.first n ≡ b → (if b then slice_get e.rings (n - e.first) else None) ≡ Some ring → IsRing e (n - e.first) n ring
    go true is k = let low : e.first ≤ n = leb-true e.first n is in (omega (arith, low), k)
    go false is k = absurd cc

-- and a ring is found by its number
pub ring_yes : (e : Element) (k n : ℕ) (ring : List Position) → IsRing e k n ring → ring_of e n ≡ Some ring
ring_yes e k n ring h = let low : e.first ≤ n = omega (arith, h.0) in let place : n - e.first ≡ k = omega (arith, h.0) in
    ap (λ (b : Bool). if b then slice_get e.rings (n - e.first) else None) (le-leb e.first n low) ∙ (ap (slice_get e.rings) place ∙ h.1)

-- of two rings of a polygon the later one has the greater number
pub later_ring : (first k l i j : ℕ) → i ≡ first + k → j ≡ first + l → i < j → k < l
later_ring first k l i j e f h = omega (arith, e, f, h)

-- and the other way round
pub greater_number : (first k l i j : ℕ) → i ≡ first + k → j ≡ first + l → k < l → i < j
greater_number first k l i j e f h = omega (arith, e, f, h)
