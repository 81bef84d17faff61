-- Quotients by powers of 2, of sizes that count the least double.
use Rattle.std.proofs.Common.{◌≡◌, refl, sym, ap, ◌∙◌, ℕ, zero, suc, ◌-◌, ◌*◌, ◌/◌, ◌%◌, ◌^◌, ◌<◌, ◌≤◌, ◌==◌, min, nat_eq, arith, ◌⊎◌, inl, inr, lit<}
use Rattle.std.proofs.Math.Nat.{div-eq_of_lt, mod-eq_of_lt, pow-le-pow_right}
use Rattle.std.proofs.lemmas.Nat.{pow_pos, div-add-mod'}

-- a power of 2 is at least 1
some_power : (k : ℕ) → 0 < 2 ^ k
some_power k = omega (arith, pow_pos k)

-- the least of a number and 127 is one of them
least : (k : ℕ) → ((k ≤ 127) × (min k 127 ≡ k)) ⊎ ((127 ≤ k) × (min k 127 ≡ 127))
least k = grind arith

-- a number below a power of 2 is below any greater power
below_more : (n k : ℕ) → n < 2 ^ 124 → 127 ≤ k → n < 2 ^ k
below_more n k h more = let grown : 2 ^ 127 ≤ 2 ^ k = pow-le-pow_right (lit< tt) more in omega (arith, grown, h)

below_most : (n : ℕ) → n < 2 ^ 124 → n < 2 ^ 127
below_most n h = omega (arith, h)

-- a number of at most 127 digits, halved more often than 127 times, is the same as halved 127 times
pub halved_whole : (n k by : ℕ) → n < 2 ^ 124 → by ≡ min k 127 → n / 2 ^ by ≡ n / 2 ^ k
halved_whole n k by h is = go (least k)
  where
    go : ((k ≤ 127) × (min k 127 ≡ k)) ⊎ ((127 ≤ k) × (min k 127 ≡ 127)) → n / 2 ^ by ≡ n / 2 ^ k
    go (inl l) = ap (λ (j : ℕ). n / 2 ^ j) (is ∙ l.1)
    go (inr l) = ap (λ (j : ℕ). n / 2 ^ j) (is ∙ l.1)
        ∙ (div-eq_of_lt (below_most n h) ∙ sym (div-eq_of_lt (below_more n k h l.0)))

-- what is left is nothing if and only if the whole ones, doubled again, are the number
rest_test : (n d : ℕ) → nat_eq (n / d * d) n ≡ (n % d == 0)
rest_test n d = go (n % d) refl
  where
    go : (r : ℕ) → n % d ≡ r → nat_eq (n / d * d) n ≡ (r == 0)
    go zero e = grind (arith, div-add-mod' n d, e)
    go (suc r) e = grind (arith, div-add-mod' n d, e)

short : (n k : ℕ) → n < 2 ^ 124 → n / 2 ^ k * 2 ^ k % 2 ^ 128 ≡ n / 2 ^ k * 2 ^ k
short n k h = mod-eq_of_lt (omega (arith, div-add-mod' n (2 ^ k), h))

mod_far : (n k : ℕ) → n < 2 ^ 124 → 127 ≤ k → n % 2 ^ 127 ≡ n % 2 ^ k
mod_far n k h more = mod-eq_of_lt (below_most n h) ∙ sym (mod-eq_of_lt (below_more n k h more))

pub halved_rest : (n k by : ℕ) → n < 2 ^ 124 → by ≡ min k 127 → nat_eq (n / 2 ^ by * 2 ^ by % 2 ^ 128) n ≡ (n % 2 ^ k == 0)
halved_rest n k by h is = ap (λ (m : ℕ). nat_eq m n) (short n by h) ∙ (rest_test n (2 ^ by) ∙ go (least k))
  where
    go : ((k ≤ 127) × (min k 127 ≡ k)) ⊎ ((127 ≤ k) × (min k 127 ≡ 127)) → (n % 2 ^ by == 0) ≡ (n % 2 ^ k == 0)
    go (inl l) = ap (λ (j : ℕ). n % 2 ^ j == 0) (is ∙ l.1)
    go (inr l) = ap (λ (j : ℕ). n % 2 ^ j == 0) (is ∙ l.1) ∙ ap (λ (m : ℕ). m == 0) (mod_far n k h l.0)
