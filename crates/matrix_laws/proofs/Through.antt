-- The parity of a list of which one element passes.
use Rattle.std.proofs.Common.{ℕ, zero, suc, ◌≡◌, Bool, true, false, refl, ap, ap₂, ◌∙◌, List, [], ◌∷◌, None, Some, slice_get, arith}
use Rattle.geometry_model.specs.Crossings.{exactly_one as xor}
use Rattle.geometry_laws.proofs.Each.{parity}

-- ---- one that passes, at one place
-- where one element passes and no other does, the number of those that pass is odd
pub one_parity : {X : Type 0} (f : X → Bool) (xs : List X) (j : ℕ) (x : X) → slice_get xs j ≡ Some x → f x ≡ true → ((k : ℕ) (y : X) → (k ≡ j → ⊥) → slice_get xs k ≡ Some y → f y ≡ false) → parity f xs ≡ true
one_parity f [] j x e h g = absurd (let z : None ≡ Some x = e in cc)
one_parity {X} f (y ∷ ys) zero x e h g = ap₂ xor (ap f same ∙ h) (none ys (λ k z q. g (suc k) z (λ w. absurd (omega (arith, w))) q))
  where
    same : y ≡ x
    same = let z : Some y ≡ Some x = e in cc

    none : (zs : List X) → ((k : ℕ) (z : X) → slice_get zs k ≡ Some z → f z ≡ false) → parity f zs ≡ false
    none [] n = refl
    none (z ∷ zs) n = ap₂ xor (n 0 z refl) (none zs (λ k w q. n (suc k) w q))
one_parity f (y ∷ ys) (suc j) x e h g = ap₂ xor (g 0 y (λ w. absurd (omega (arith, w))) refl) (one_parity f ys j x e h (λ k z n q. g (suc k) z (λ w. n (omega (arith, w))) q))

-- where none passes it is even
pub none_parity : {X : Type 0} (f : X → Bool) (xs : List X) → ((k : ℕ) (y : X) → slice_get xs k ≡ Some y → f y ≡ false) → parity f xs ≡ false
none_parity f [] n = refl
none_parity f (y ∷ ys) n = ap₂ xor (n 0 y refl) (none_parity f ys (λ k z q. n (suc k) z q))
