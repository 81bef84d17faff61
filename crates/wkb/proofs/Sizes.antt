-- How many ticks the size of a double is: the power of 2 in it, over that in the least double.
use Rattle.std.proofs.Common.{◌≡◌, sym, ap, ap₂, ◌∙◌, subst, ℕ, zero, suc, ◌+◌, ◌-◌, ◌*◌, ◌/◌, ◌%◌, ◌^◌, ◌<◌, ◌≤◌, ◌==◌, true, false, not, arith, lit<}
use Rattle.std.proofs.Math.Nat.{mod-eq_of_lt, div-div-eq-div-mul, mul-div_cancel, mul-div_cancel_left, mul-mod_right, pow-le-pow_right}
use Rattle.std.proofs.lemmas.Nat.{pow_pos, pow-add, div-add-mod', mul-le}
use Rattle.basics.proofs.Numbers.{not_zero, next_not_zero}
use Rattle.wkb.specs.Doubles.{one, magnitude, significand, exponent}
use Rattle.wkb.specs.Grids.{ticks}
use Rattle.wkb.specs.Ticks.{size, IsCounted}
use Rattle.wkb.specs.declared.doubles.Parts.{Parts}

-- the power of 2 that a double has goes to the end
turned : (s p t u : ℕ) → s * p * t * u ≡ s * t * u * p
turned s p t u = omega arith

-- a factor that both have
pub div_both : (x p w : ℕ) → 0 < p → x * p / (p * w) ≡ x / w
div_both x p w h = sym (div-div-eq-div-mul (x * p) p w) ∙ ap (λ (n : ℕ). n / w) (mul-div_cancel x h)

pub mod_both : (x p w : ℕ) → 0 < p → x * p % (p * w) ≡ p * (x % w)
mod_both x p w h =
    let q : x * p / (p * w) ≡ x / w = div_both x p w h in
    let e : x * p / (p * w) * (p * w) + x * p % (p * w) ≡ x * p = div-add-mod' (x * p) (p * w) in
    let f : x / w * w + x % w ≡ x = div-add-mod' x w in
    from x p w (x * p / (p * w)) (x / w) (x * p % (p * w)) (x % w) q e f
  where
    from : (x p w a b c d : ℕ) → a ≡ b → a * (p * w) + c ≡ x * p → b * w + d ≡ x → c ≡ p * d
    from x p w a b c d q e f = same (subst (λ (n : ℕ). n * (p * w) + c ≡ x * p) q e) (ap (λ (n : ℕ). n * p) f)
      where
        same : b * (p * w) + c ≡ x * p → (b * w + d) * p ≡ x * p → c ≡ p * d
        same e f = omega (arith, e, f)

no_product : (p m : ℕ) → 0 < p → (p * m == 0) ≡ (m == 0)
no_product p zero h = ap (λ (n : ℕ). n == 0) (times_zero p)
  where
    times_zero : (p : ℕ) → p * zero ≡ zero
    times_zero p = omega arith
no_product zero (suc m) h = absurd (omega (arith, h))
no_product (suc p) (suc m) h = not_zero (suc p * suc m) (some p m) ∙ sym (next_not_zero m)
  where
    some : (p m : ℕ) → 0 < suc p * suc m
    some p m = omega arith

rest_both : (x p w : ℕ) → 0 < p → (x * p % (p * w) == 0) ≡ (x % w == 0)
rest_both x p w h = ap (λ (n : ℕ). n == 0) (mod_both x p w h) ∙ no_product p (x % w) h

some_power : (k : ℕ) → 0 < 2 ^ k
some_power k = omega (arith, pow_pos k)

-- the least double above 0 goes so often into the number 1
pub one_is : (k : ℕ) → k ≤ 1074 → one ≡ 2 ^ k * 2 ^ (1074 - k)
unfolding one
one_is k h = ap (λ (n : ℕ). 2 ^ n) (together k h) ∙ pow-add 2 k (1074 - k)
  where
    together : (k : ℕ) → k ≤ 1074 → 1074 ≡ k + (1074 - k)
    together k h = omega (arith, h)

-- and it doesn't go into a number that is a multiple of 1
power_is : (k : ℕ) → 1074 ≤ k → 2 ^ k ≡ one * 2 ^ (k - 1074)
unfolding one
power_is k h = ap (λ (n : ℕ). 2 ^ n) (together k h) ∙ pow-add 2 1074 (k - 1074)
  where
    together : (k : ℕ) → 1074 ≤ k → k ≡ 1074 + (k - 1074)
    together k h = omega (arith, h)

pub some_one : 0 < one
unfolding one
some_one = some_power 1074

size_is : (bits parts : ℕ) → size bits parts ≡ significand bits * parts * ticks * 2 ^ (exponent bits - 1)
unfolding magnitude
size_is bits parts = turned (significand bits) (2 ^ (exponent bits - 1)) parts ticks

-- ---- a double whose last bit is a part of 1
pub small_whole : (bits parts k : ℕ) → k ≡ exponent bits - 1 → k ≤ 1074
    → size bits parts / one ≡ significand bits * parts * ticks / 2 ^ (1074 - k)
small_whole bits parts k is h =
    let x = significand bits * parts * ticks in
    ap₂ (λ (m n : ℕ). m / n) (size_is bits parts ∙ ap (λ (j : ℕ). x * 2 ^ j) (sym is)) (one_is k h)
    ∙ div_both x (2 ^ k) (2 ^ (1074 - k)) (some_power k)

pub small_rest : (bits parts k : ℕ) → k ≡ exponent bits - 1 → k ≤ 1074
    → (size bits parts % one == 0) ≡ (significand bits * parts * ticks % 2 ^ (1074 - k) == 0)
small_rest bits parts k is h =
    let x = significand bits * parts * ticks in
    ap₂ (λ (m n : ℕ). m % n == 0) (size_is bits parts ∙ ap (λ (j : ℕ). x * 2 ^ j) (sym is)) (one_is k h)
    ∙ rest_both x (2 ^ k) (2 ^ (1074 - k)) (some_power k)

-- ---- a double that is whole
whole_is : (bits parts k : ℕ) → k ≡ exponent bits - 1 → 1074 ≤ k
    → size bits parts ≡ one * (significand bits * parts * ticks * 2 ^ (k - 1074))
whole_is bits parts k is h =
    let x = significand bits * parts * ticks in
    size_is bits parts ∙ (ap (λ (j : ℕ). x * 2 ^ j) (sym is)
    ∙ (ap (λ (n : ℕ). x * n) (power_is k h) ∙ swapped x one (2 ^ (k - 1074))))
  where
    swapped : (x u p : ℕ) → x * (u * p) ≡ u * (x * p)
    swapped x u p = omega arith

pub great_whole : (bits parts k : ℕ) → k ≡ exponent bits - 1 → 1074 ≤ k
    → size bits parts / one ≡ significand bits * parts * ticks * 2 ^ (k - 1074)
great_whole bits parts k is h = ap (λ (n : ℕ). n / one) (whole_is bits parts k is h)
    ∙ mul-div_cancel_left (significand bits * parts * ticks * 2 ^ (k - 1074)) some_one

pub great_rest : (bits parts k : ℕ) → k ≡ exponent bits - 1 → 1074 ≤ k → (size bits parts % one == 0) ≡ true
great_rest bits parts k is h = ap (λ (n : ℕ). n % one == 0) (whole_is bits parts k is h)
    ∙ ap (λ (n : ℕ). n == 0) (mul-mod_right one (significand bits * parts * ticks * 2 ^ (k - 1074)))

-- ---- a number of 97 digits or more
pub doubled_past : (n k : ℕ) → 2 ^ 72 ≤ n → 24 < k → 2 ^ 96 ≤ n * 2 ^ k
doubled_past n k h more =
    let grown : 2 ^ 25 ≤ 2 ^ k = pow-le-pow_right (lit< tt) more in
    from n (2 ^ k) h grown
  where
    from : (n p : ℕ) → 2 ^ 72 ≤ n → 2 ^ 25 ≤ p → 2 ^ 96 ≤ n * p
    from n p h k = let product : 2 ^ 72 * 2 ^ 25 ≤ n * p = mul-le _ _ _ _ h k in omega (arith, product)

pub doubled_more : (n k : ℕ) → 2 ^ 96 ≤ n → 2 ^ 96 ≤ n * 2 ^ k
doubled_more n k h = let product : 2 ^ 96 * 1 ≤ n * 2 ^ k = mul-le _ _ _ _ h (some_power k) in omega (arith, product)

-- fewer, doubled 24 times at most, are fewer than 2 to the power of 124
pub doubled_within : (n k : ℕ) → n < 2 ^ 96 → k ≤ 24 → n * 2 ^ k < 2 ^ 124
doubled_within n k h few =
    let power : 2 ^ k ≤ 2 ^ 24 = pow-le-pow_right (lit< tt) few in
    let product : n * 2 ^ k ≤ 2 ^ 96 * 2 ^ 24 = mul-le _ _ _ _ (less n h) power in
    omega (arith, product)
  where
    less : (n : ℕ) → n < 2 ^ 96 → n ≤ 2 ^ 96
    less n h = omega (arith, h)

pub doubled_short : (n k : ℕ) → n < 2 ^ 96 → k ≤ 24 → n * 2 ^ k % 2 ^ 128 ≡ n * 2 ^ k
doubled_short n k h few = mod-eq_of_lt (omega (arith, doubled_within n k h few))

-- ---- what is found of a double
pub counted_small : (bits parts number k : ℕ) (found : Parts) → number ≡ significand bits * parts * ticks → k ≡ exponent bits - 1
    → k < 1074
    → found.whole ≡ number / 2 ^ (1074 - k) → found.has_rest ≡ not (number % 2 ^ (1074 - k) == 0) → found.whole ≤ number
    → number < 2 ^ 124
    → IsCounted (size bits parts) found
counted_small bits parts number k found is by less whole rest within short = record {
  whole = whole ∙ (ap (λ (n : ℕ). n / 2 ^ (1074 - k)) is ∙ sym (small_whole bits parts k by (weak k less)));
  rest = rest ∙ (ap (λ (n : ℕ). not (n % 2 ^ (1074 - k) == 0)) is ∙ ap not (sym (small_rest bits parts k by (weak k less))));
  within = omega (arith, within, short);
}
  where
    weak : (k : ℕ) → k < 1074 → k ≤ 1074
    weak k h = omega (arith, h)

pub counted_great : (bits parts number k whole : ℕ) → number ≡ significand bits * parts * ticks → k ≡ exponent bits - 1 → 1074 ≤ k
    → whole ≡ number * 2 ^ (k - 1074) → whole < 2 ^ 124 → IsCounted (size bits parts) (record { whole = whole; has_rest = false })
counted_great bits parts number k whole is by more found short = record {
  whole = found ∙ (ap (λ (n : ℕ). n * 2 ^ (k - 1074)) is ∙ sym (great_whole bits parts k by more));
  rest = ap not (sym (great_rest bits parts k by more));
  within = short;
}

pub far_great : (bits parts number k : ℕ) → number ≡ significand bits * parts * ticks → k ≡ exponent bits - 1 → 1074 ≤ k
    → 2 ^ 96 ≤ number * 2 ^ (k - 1074) → 2 ^ 96 ≤ size bits parts / one
far_great bits parts number k is by more far =
    subst (λ (n : ℕ). 2 ^ 96 ≤ n) (ap (λ (n : ℕ). n * 2 ^ (k - 1074)) is ∙ sym (great_whole bits parts k by more)) far
