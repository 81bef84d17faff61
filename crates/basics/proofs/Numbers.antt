-- Natural numbers, beyond what std has.
use Rattle.std.proofs.Common.{◌≡◌, refl, ℕ, zero, suc, ◌+◌, ◌-◌, ◌*◌, ◌/◌, ◌<◌, ◌≤◌, ◌⊎◌, ◌==◌, ℤ, pos, neg_ℤ, ◌*ℤ◌, unsigned_abs, false, arith, mul-le-mul}
use Rattle.std.proofs.lemmas.Int.{unsigned_abs-mul}

-- of the numbers below n + 1 the last is n
pub earlier_or_last : (k n : ℕ) → k < n + 1 → (k < n) ⊎ (k ≡ n)
earlier_or_last k n h = grind arith

-- two numbers are in order, equal, or in the other order
pub in_order : (k n : ℕ) → (k < n) ⊎ ((k ≡ n) ⊎ (n < k))
in_order k n = grind arith

-- of two others one is less
pub less_or_more : (k n : ℕ) → (k ≡ n → ⊥) → (k < n) ⊎ (n < k)
less_or_more k n h = grind arith

-- what is at least a number is at least an equal one
pub at_least_same : (n m j : ℕ) → n ≡ m → n ≤ j → m ≤ j
at_least_same n m j e h = omega (arith, e, h)

-- what is less isn't the same
pub less_not_same : (k n : ℕ) → k < n → k ≡ n → ⊥
less_not_same k n h e = omega (arith, h, e)

-- from 0 on
pub from_zero : (n : ℕ) → n ≡ zero + n
from_zero n = omega arith

-- up to the end
pub to_end : (n : ℕ) → n ≡ n + 0
to_end n = omega arith

-- one further on and one less to go
pub one_on : (k n : ℕ) → k + (n + 1) ≡ suc k + n
one_on k n = omega arith

-- one less than the next is the number
pub one_less : (n : ℕ) → suc n - 1 ≡ n
one_less n = omega arith

-- what is above 0 isn't 0, as a test
pub not_zero : (n : ℕ) → 0 < n → (n == 0) ≡ false
not_zero n h = grind (arith, h)

-- the next number isn't 0, as a test
pub next_not_zero : (n : ℕ) → (suc n == 0) ≡ false
next_not_zero n = grind arith

-- the middle of a stretch is within all that has the stretch
pub middle_within : (low high n : ℕ) → low < high → high ≤ n → low + (high - low) / 2 < n
middle_within low high n h k = omega (arith, h, k)

-- and so it is before the stretch's end
pub middle_before : (low high : ℕ) → low < high → low + (high - low) / 2 < high
middle_before low high h = omega (arith, h)

-- a number below 0 has the size of the one above
pub negated : (n : ℕ) → unsigned_abs (neg_ℤ (pos n)) ≡ n
negated zero = refl
negated (suc n) = refl

-- the size of a product is within the product of what the sizes are within
pub product_within : (a b : ℤ) (m n : ℕ) → unsigned_abs a ≤ m → unsigned_abs b ≤ n → unsigned_abs (a *ℤ b) ≤ m * n
product_within a b m n h k = rw unsigned_abs-mul (mul-le-mul h k)
