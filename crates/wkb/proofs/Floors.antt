-- Quotients rounded down, of whole numbers by numbers above 0.
use Rattle.std.proofs.Common.{◌≡◌, sym, ap, ◌∙◌, ℕ, ◌+◌, ◌-◌, ◌*◌, ◌/◌, ◌%◌, ◌<◌, ◌≤◌, ℤ, pos, negsuc, neg_ℤ, ◌+ℤ◌, ◌-ℤ◌, ◌*ℤ◌, ◌≤ℤ◌, ◌<ℤ◌, [], ◌∷◌, arith, ◌⊎◌, inl, inr}
use borrow.Author.Differences.{ints}
use Rattle.std.specs.Int.{int_div_euclid}
use Rattle.std.proofs.Math.Nat.{div-add-mod, mod-lt, div-div-eq-div-mul}
use Rattle.std.proofs.lemmas.Nat.{le-div, mul-le}
use Rattle.basics.proofs.Ring.{solve, var, lit, ◌⊕◌, ◌⊖◌, ◌⊗◌}
use Rattle.basics.proofs.Signs.{plus_plus, at_most_or_less}

-- ---- what a quotient rounded down is
low_pos : (a b : ℕ) → (pos (a / b) *ℤ pos b) ≤ℤ pos a
low_pos a b = let e : b * (a / b) + a % b ≡ a = div-add-mod a b in omega (arith, ints, e)

high_pos : (a b : ℕ) → 0 < b → pos a <ℤ (pos (a / b) *ℤ pos b +ℤ pos b)
high_pos a b h = let e : b * (a / b) + a % b ≡ a = div-add-mod a b in let f : a % b < b = mod-lt a h in omega (arith, ints, e, f)

low_neg : (a b : ℕ) → 0 < b → (negsuc (a / b) *ℤ pos b) ≤ℤ negsuc a
low_neg a b h = let e : b * (a / b) + a % b ≡ a = div-add-mod a b in let f : a % b < b = mod-lt a h in omega (arith, ints, e, f)

high_neg : (a b : ℕ) → negsuc a <ℤ (negsuc (a / b) *ℤ pos b +ℤ pos b)
high_neg a b = let e : b * (a / b) + a % b ≡ a = div-add-mod a b in omega (arith, ints, e)

-- its multiple isn't more than the number, and the next multiple is
pub floor_low : (z : ℤ) (d : ℕ) → 0 < d → (int_div_euclid z (pos d) *ℤ pos d) ≤ℤ z
floor_low (pos a) d h = low_pos a d
floor_low (negsuc a) d h = low_neg a d h

pub floor_high : (z : ℤ) (d : ℕ) → 0 < d → z <ℤ (int_div_euclid z (pos d) *ℤ pos d +ℤ pos d)
floor_high (pos a) d h = high_pos a d h
floor_high (negsuc a) d h = high_neg a d

-- no greater number has a multiple that is that small
no_greater : (z q r : ℤ) (d : ℕ) → (r *ℤ pos d) ≤ℤ z → z <ℤ (q *ℤ pos d +ℤ pos d) → r ≤ℤ q
no_greater z q r d low high = go (at_most_or_less r q)
  where
    beyond : q <ℤ r → pos 0 ≤ℤ (r -ℤ q -ℤ pos 1)
    beyond h = omega (arith, ints)

    natural : pos 0 ≤ℤ pos d
    natural = omega (arith, ints)

    apart : (s t e : ℤ) → e ≡ s -ℤ t -ℤ pos d → pos 0 ≤ℤ e → s ≤ℤ z → z <ℤ (t +ℤ pos d) → r ≤ℤ q
    apart s t e is h k l = absurd (omega (arith, ints, is, h, k, l))

    go : (r ≤ℤ q) ⊎ (q <ℤ r) → r ≤ℤ q
    go (inl h) = h
    go (inr h) = apart (r *ℤ pos d) (q *ℤ pos d) ((r -ℤ q -ℤ pos 1) *ℤ pos d)
        (solve (r ∷ q ∷ pos d ∷ []) ((var 0 ⊖ var 1 ⊖ lit (pos 1)) ⊗ var 2) (var 0 ⊗ var 2 ⊖ var 1 ⊗ var 2 ⊖ var 2) tt)
        (plus_plus (r -ℤ q -ℤ pos 1) (pos d) (beyond h) natural) low high

-- only one number is such
pub floor_is : (z q : ℤ) (d : ℕ) → 0 < d → (q *ℤ pos d) ≤ℤ z → z <ℤ (q *ℤ pos d +ℤ pos d) → int_div_euclid z (pos d) ≡ q
floor_is z q d h low high = both (int_div_euclid z (pos d)) q
    (no_greater z q (int_div_euclid z (pos d)) d (floor_low z d h) high)
    (no_greater z (int_div_euclid z (pos d)) q d low (floor_high z d h))
  where
    both : (a b : ℤ) → a ≤ℤ b → b ≤ℤ a → a ≡ b
    both a b k l = omega (arith, ints, k, l)

-- ---- laws
-- one quotient after another is one by the product
pub floor_floor : (z : ℤ) (a b : ℕ) → int_div_euclid (int_div_euclid z (pos a)) (pos b) ≡ int_div_euclid z (pos (a * b))
floor_floor (pos n) a b = ap pos (div-div-eq-div-mul n a b)
floor_floor (negsuc n) a b = ap negsuc (div-div-eq-div-mul n a b)

-- so many times the divisor more is so many more
pub floor_shifted : (z c : ℤ) (d : ℕ) → 0 < d → int_div_euclid (z +ℤ c *ℤ pos d) (pos d) ≡ int_div_euclid z (pos d) +ℤ c
floor_shifted z c d h = floor_is (z +ℤ c *ℤ pos d) (int_div_euclid z (pos d) +ℤ c) d h
    (low z (c *ℤ pos d) (int_div_euclid z (pos d) *ℤ pos d) _ (over (int_div_euclid z (pos d)) c) (floor_low z d h))
    (high z (c *ℤ pos d) (int_div_euclid z (pos d) *ℤ pos d) _ (over (int_div_euclid z (pos d)) c) (floor_high z d h))
  where
    over : (q c : ℤ) → (q +ℤ c) *ℤ pos d ≡ q *ℤ pos d +ℤ c *ℤ pos d
    over q c = solve (q ∷ c ∷ pos d ∷ []) ((var 0 ⊕ var 1) ⊗ var 2) (var 0 ⊗ var 2 ⊕ var 1 ⊗ var 2) tt

    low : (z m s t : ℤ) → t ≡ s +ℤ m → s ≤ℤ z → t ≤ℤ (z +ℤ m)
    low z m s t e k = omega (arith, ints, e, k)

    high : (z m s t : ℤ) → t ≡ s +ℤ m → z <ℤ (s +ℤ pos d) → (z +ℤ m) <ℤ (t +ℤ pos d)
    high z m s t e k = omega (arith, ints, e, k)

-- a multiple of the divisor
floor_product : (z : ℤ) (k : ℕ) → 0 < k → int_div_euclid (z *ℤ pos k) (pos k) ≡ z
floor_product z k h = floor_is (z *ℤ pos k) z k h (same (z *ℤ pos k)) (more (z *ℤ pos k))
  where
    same : (s : ℤ) → s ≤ℤ s
    same s = omega (arith, ints)

    more : (s : ℤ) → s <ℤ (s +ℤ pos k)
    more s = omega (arith, ints, h)

-- both so many times as much
pub floor_scaled : (z : ℤ) (k d : ℕ) → 0 < k → int_div_euclid (z *ℤ pos k) (pos (k * d)) ≡ int_div_euclid z (pos d)
floor_scaled z k d h = sym (floor_floor (z *ℤ pos k) k d) ∙ ap (λ (q : ℤ). int_div_euclid q (pos d)) (floor_product z k h)

-- ---- quotients past a limit
-- a number that is so far above 0 has a quotient past the limit, as the divisor isn't past its own
pub floor_beyond : (z : ℤ) (d most limit : ℕ) → 0 < d → d ≤ most → pos (most * (limit + 1)) ≤ℤ z
    → pos limit <ℤ int_div_euclid z (pos d)
floor_beyond (pos n) d most limit h few far = above (n / d)
    (le-div (limit + 1) n d h (below (mul-le (limit + 1) d (limit + 1) most (omega arith) few) far))
  where
    below : (limit + 1) * d ≤ (limit + 1) * most → pos (most * (limit + 1)) ≤ℤ pos n → (limit + 1) * d ≤ n
    below e far = omega (arith, ints, e, far)

    above : (q : ℕ) → limit + 1 ≤ q → pos limit <ℤ pos q
    above q h = omega (arith, ints, h)
floor_beyond (negsuc n) d most limit h few far = absurd (omega (arith, ints, far))

-- and so has a number that is so far below 0
pub floor_below : (z : ℤ) (d most limit : ℕ) → 0 < d → d ≤ most → z <ℤ neg_ℤ (pos (most * limit))
    → int_div_euclid z (pos d) <ℤ neg_ℤ (pos limit)
floor_below (pos n) d most limit h few far = absurd (omega (arith, ints, far))
floor_below (negsuc n) d most limit h few far = above (n / d)
    (le-div limit n d h (below (mul-le limit d limit most (omega arith) few) far))
  where
    below : limit * d ≤ limit * most → negsuc n <ℤ neg_ℤ (pos (most * limit)) → limit * d ≤ n
    below e far = omega (arith, ints, e, far)

    above : (q : ℕ) → limit ≤ q → negsuc q <ℤ neg_ℤ (pos limit)
    above q h = omega (arith, ints, h)
