-- The order of doubles: first by their exponents, then by the digits behind the leading bit.
use Rattle.std.proofs.Common.{◌≡◌, sym, subst, ℕ, zero, suc, ◌+◌, ◌-◌, ◌*◌, ◌^◌, ◌<◌, ◌≤◌, ◌==◌, Bool, true, false, cond, ℤ, pos, neg_ℤ, ◌≤ℤ◌, arith}
use borrow.Author.Differences.{ints}
use Rattle.std.specs.Int.{int_min, int_max}
use Rattle.std.proofs.lemmas.Nat.{pow_pos, pow-add, mul-le}
use Rattle.std.proofs.Math.Nat.{pow-le-pow_right}
use Rattle.basics.proofs.Numbers.{next_not_zero}
use Rattle.wkb.specs.Doubles.{exponent, trailing, significand, magnitude, is_minus, value}

-- more trailing digits, more of a significand
grows : (b : Bool) (t u : ℕ) → t ≤ u → cond b t (2 ^ 52 + t) ≤ cond b u (2 ^ 52 + u)
grows true t u h = h
grows false t u h = omega (arith, h)

pub by_trailing : (a b : ℕ) → exponent a ≡ exponent b → trailing a ≤ trailing b → magnitude a ≤ magnitude b
unfolding magnitude significand
by_trailing a b e h =
    subst (λ (n : ℕ). cond (exponent a == 0) (trailing a) (2 ^ 52 + trailing a) * 2 ^ (exponent a - 1)
    ≤ cond (n == 0) (trailing b) (2 ^ 52 + trailing b) * 2 ^ (n - 1)) e
    (mul-le _ _ _ _ (grows (exponent a == 0) (trailing a) (trailing b) h) (omega arith))

pub by_trailing_back : (a b : ℕ) → exponent a ≡ exponent b → trailing b < trailing a → magnitude b ≤ magnitude a
by_trailing_back a b e h = by_trailing b a (sym e) (omega (arith, h))

some_power : (k : ℕ) → 1 ≤ 2 ^ k
some_power k = omega (arith, pow_pos k)

-- the parts of a double with a lesser exponent
exponents : (e f t u : ℕ) → e < f → t < 2 ^ 52 → cond (e == 0) t (2 ^ 52 + t) * 2 ^ (e - 1) ≤ cond (f == 0) u (2 ^ 52 + u) * 2 ^ (f - 1)
exponents e zero t u h short = absurd (omega (arith, h))
exponents zero (suc k) t u h short =
    let more : t * 1 ≤ (2 ^ 52 + u) * 2 ^ (suc k - 1) = mul-le _ _ _ _ (omega (arith, short)) (some_power (suc k - 1)) in
    rw (next_not_zero k) more
exponents (suc j) (suc k) t u h short =
    let few : (2 ^ 52 + t) * 2 ^ (suc j - 1) ≤ (2 ^ 53) * 2 ^ (suc j - 1) = mul-le _ _ _ _ (omega (arith, short)) (omega arith) in
    let twice : 2 ^ (1 + (suc j - 1)) ≡ 2 ^ 1 * 2 ^ (suc j - 1) = pow-add 2 1 (suc j - 1) in
    let steps : 2 ^ (1 + (suc j - 1)) ≤ 2 ^ (suc k - 1) = pow-le-pow_right (omega arith) (omega (arith, h)) in
    let many : 2 ^ 52 * 2 ^ (suc k - 1) ≤ (2 ^ 52 + u) * 2 ^ (suc k - 1) = mul-le _ _ _ _ (omega arith) (omega arith) in
    rw (next_not_zero j, next_not_zero k) (together (2 ^ (suc j - 1)) (2 ^ (1 + (suc j - 1))) (2 ^ (suc k - 1)) _ _ few twice steps many)
  where
    together : (p q r m n : ℕ) → m ≤ 2 ^ 53 * p → q ≡ 2 ^ 1 * p → q ≤ r → 2 ^ 52 * r ≤ n → m ≤ n
    together p q r m n few twice steps many = omega (arith, few, twice, steps, many)

pub by_exponent : (a b : ℕ) → exponent a < exponent b → magnitude a ≤ magnitude b
unfolding magnitude significand
by_exponent a b h = exponents (exponent a) (exponent b) (trailing a) (trailing b) h (short a)
  where
    short : (a : ℕ) → trailing a < 2 ^ 52
    short a = omega arith

-- ---- values
plus : (m n : ℕ) → m ≤ n → pos m ≤ℤ pos n
plus m n h = omega (arith, ints, h)

minus : (m n : ℕ) → m ≤ n → neg_ℤ (pos n) ≤ℤ neg_ℤ (pos m)
minus m n h = omega (arith, ints, h)

across : (m n : ℕ) → neg_ℤ (pos m) ≤ℤ pos n
across m n = omega (arith, ints)

pub both_plus : (a b : ℕ) → is_minus a ≡ false → is_minus b ≡ false → magnitude a ≤ magnitude b → value a ≤ℤ value b
both_plus a b e f h = rw (e, f) (plus (magnitude a) (magnitude b) h)

pub both_minus : (a b : ℕ) → is_minus a ≡ true → is_minus b ≡ true → magnitude b ≤ magnitude a → value a ≤ℤ value b
both_minus a b e f h = rw (e, f) (minus (magnitude b) (magnitude a) h)

pub minus_first : (a b : ℕ) → is_minus a ≡ true → is_minus b ≡ false → value a ≤ℤ value b
minus_first a b e f = rw (e, f) (across (magnitude a) (magnitude b))

-- ---- the lesser and the greater one
least_first : (x y : ℤ) → x ≤ℤ y → x ≡ int_min x y
least_first x y h = grind (arith, ints, h)

least_second : (x y : ℤ) → y ≤ℤ x → y ≡ int_min x y
least_second x y h = grind (arith, ints, h)

greatest_first : (x y : ℤ) → y ≤ℤ x → x ≡ int_max x y
greatest_first x y h = grind (arith, ints, h)

greatest_second : (x y : ℤ) → x ≤ℤ y → y ≡ int_max x y
greatest_second x y h = grind (arith, ints, h)

pub first_is_least : (a b : ℕ) → value a ≤ℤ value b → value a ≡ int_min (value a) (value b)
first_is_least a b h = least_first (value a) (value b) h

pub second_is_least : (a b : ℕ) → value b ≤ℤ value a → value b ≡ int_min (value a) (value b)
second_is_least a b h = least_second (value a) (value b) h

pub first_is_greatest : (a b : ℕ) → value b ≤ℤ value a → value a ≡ int_max (value a) (value b)
first_is_greatest a b h = greatest_first (value a) (value b) h

pub second_is_greatest : (a b : ℕ) → value a ≤ℤ value b → value b ≡ int_max (value a) (value b)
second_is_greatest a b h = greatest_second (value a) (value b) h
