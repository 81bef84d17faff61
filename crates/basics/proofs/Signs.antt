-- Signs of products of whole numbers, and what cancels: the few steps past linear arithmetic that the geometry takes.
use Prim.Native.Nat.{zero, suc}
use mathlib.Core.Bool.{true, false}
use mathlib.Core.Logic.{◌⊎◌, inl, inr, ◌≢◌}
use mathlib.Core.Path.{◌≡◌, refl, ap, ◌∙◌}
use native.Mathlib.Omega.{arith}
use lib.IntN.{ℤ, pos, negsuc, ◌-ℤ◌, ◌*ℤ◌}
use lib.Signed.{◌≤ℤ◌, ◌<ℤ◌, lt_z as int_lt, le_z as int_le}
use borrow.Author.Differences.{ints}

-- ---- one of two, one of three
-- a number is at most another, or more than it
pub at_most_or_less : (a b : ℤ) → (a ≤ℤ b) ⊎ (b <ℤ a)
at_most_or_less a b = grind (arith, ints)

-- a number is 0 or it isn't
pub is_or_not : (z : ℤ) → (z ≡ pos 0) ⊎ (z ≢ pos 0)
is_or_not z = grind (arith, ints)

-- a number is less than another, equal to it or more
pub three_ways : (a b : ℤ) → (a <ℤ b) ⊎ ((a ≡ b) ⊎ (b <ℤ a))
three_ways a b = grind (arith, ints)

-- ---- a product of two numbers of known sign: the first word is the sign of the first
pub plus_plus : (a b : ℤ) → pos 0 ≤ℤ a → pos 0 ≤ℤ b → pos 0 ≤ℤ (a *ℤ b)
plus_plus (pos a) (pos b) h k = omega (arith, ints)
plus_plus (pos a) (negsuc b) h k = absurd (omega (arith, ints))
plus_plus (negsuc a) b h k = absurd (omega (arith, ints))

pub plus_minus : (a b : ℤ) → pos 0 ≤ℤ a → b ≤ℤ pos 0 → (a *ℤ b) ≤ℤ pos 0
plus_minus (pos a) (pos zero) h k = omega (arith, ints)
plus_minus (pos a) (pos (suc b)) h k = absurd (omega (arith, ints))
plus_minus (pos a) (negsuc b) h k = omega (arith, ints)
plus_minus (negsuc a) b h k = absurd (omega (arith, ints))

pub minus_plus : (a b : ℤ) → a ≤ℤ pos 0 → pos 0 ≤ℤ b → (a *ℤ b) ≤ℤ pos 0
minus_plus (pos zero) (pos b) h k = omega (arith, ints)
minus_plus (pos (suc a)) b h k = absurd (omega (arith, ints))
minus_plus (pos zero) (negsuc b) h k = absurd (omega (arith, ints))
minus_plus (negsuc a) (pos b) h k = omega (arith, ints)
minus_plus (negsuc a) (negsuc b) h k = absurd (omega (arith, ints))

pub minus_minus : (a b : ℤ) → a ≤ℤ pos 0 → b ≤ℤ pos 0 → pos 0 ≤ℤ (a *ℤ b)
minus_minus (pos zero) b h k = zero_left b
  where
    zero_left : (b : ℤ) → pos 0 ≤ℤ (pos 0 *ℤ b)
    zero_left (pos b) = omega (arith, ints)
    zero_left (negsuc b) = omega (arith, ints)
minus_minus (pos (suc a)) b h k = absurd (omega (arith, ints))
minus_minus (negsuc a) (pos zero) h k = omega (arith, ints)
minus_minus (negsuc a) (pos (suc b)) h k = absurd (omega (arith, ints))
minus_minus (negsuc a) (negsuc b) h k = omega (arith, ints)

-- the same of numbers that aren't 0
pub strict_plus_plus : (a b : ℤ) → pos 0 <ℤ a → pos 0 <ℤ b → pos 0 <ℤ (a *ℤ b)
strict_plus_plus (pos zero) b h k = absurd (omega (arith, ints))
strict_plus_plus (pos (suc a)) (pos zero) h k = absurd (omega (arith, ints))
strict_plus_plus (pos (suc a)) (pos (suc b)) h k = omega (arith, ints)
strict_plus_plus (pos (suc a)) (negsuc b) h k = absurd (omega (arith, ints))
strict_plus_plus (negsuc a) b h k = absurd (omega (arith, ints))

pub strict_plus_minus : (a b : ℤ) → pos 0 <ℤ a → b <ℤ pos 0 → (a *ℤ b) <ℤ pos 0
strict_plus_minus (pos zero) b h k = absurd (omega (arith, ints))
strict_plus_minus (pos (suc a)) (pos b) h k = absurd (omega (arith, ints))
strict_plus_minus (pos (suc a)) (negsuc b) h k = omega (arith, ints)
strict_plus_minus (negsuc a) b h k = absurd (omega (arith, ints))

pub strict_minus_plus : (a b : ℤ) → a <ℤ pos 0 → pos 0 <ℤ b → (a *ℤ b) <ℤ pos 0
strict_minus_plus (pos a) b h k = absurd (omega (arith, ints))
strict_minus_plus (negsuc a) (pos zero) h k = absurd (omega (arith, ints))
strict_minus_plus (negsuc a) (pos (suc b)) h k = omega (arith, ints)
strict_minus_plus (negsuc a) (negsuc b) h k = absurd (omega (arith, ints))

pub strict_minus_minus : (a b : ℤ) → a <ℤ pos 0 → b <ℤ pos 0 → pos 0 <ℤ (a *ℤ b)
strict_minus_minus (pos a) b h k = absurd (omega (arith, ints))
strict_minus_minus (negsuc a) (pos b) h k = absurd (omega (arith, ints))
strict_minus_minus (negsuc a) (negsuc b) h k = omega (arith, ints)

-- ---- a factor above 0 cancels
pub cancel_nonnegative : (a b : ℤ) → pos 0 <ℤ a → pos 0 ≤ℤ (a *ℤ b) → pos 0 ≤ℤ b
cancel_nonnegative a b h k = go (at_most_or_less (pos 0) b)
  where
    go : (pos 0 ≤ℤ b) ⊎ (b <ℤ pos 0) → pos 0 ≤ℤ b
    go (inl l) = l
    go (inr l) = let m : (a *ℤ b) <ℤ pos 0 = strict_plus_minus a b h l in absurd (omega (arith, ints))

pub cancel_positive : (a b : ℤ) → pos 0 ≤ℤ a → pos 0 <ℤ (a *ℤ b) → pos 0 <ℤ b
cancel_positive a b h k = go (at_most_or_less b (pos 0))
  where
    go : (b ≤ℤ pos 0) ⊎ (pos 0 <ℤ b) → pos 0 <ℤ b
    go (inl l) = let m : (a *ℤ b) ≤ℤ pos 0 = plus_minus a b h l in absurd (omega (arith, ints))
    go (inr l) = l

pub cancel_nonpositive : (a b : ℤ) → pos 0 <ℤ a → (a *ℤ b) ≤ℤ pos 0 → b ≤ℤ pos 0
cancel_nonpositive a b h k = go (at_most_or_less b (pos 0))
  where
    go : (b ≤ℤ pos 0) ⊎ (pos 0 <ℤ b) → b ≤ℤ pos 0
    go (inl l) = l
    go (inr l) = let m : pos 0 <ℤ (a *ℤ b) = strict_plus_plus a b h l in absurd (omega (arith, ints))

pub cancel_negative : (a b : ℤ) → pos 0 ≤ℤ a → (a *ℤ b) <ℤ pos 0 → b <ℤ pos 0
cancel_negative a b h k = go (at_most_or_less (pos 0) b)
  where
    go : (pos 0 ≤ℤ b) ⊎ (b <ℤ pos 0) → b <ℤ pos 0
    go (inl l) = let m : pos 0 ≤ℤ (a *ℤ b) = plus_plus a b h l in absurd (omega (arith, ints))
    go (inr l) = l

-- a product is 0 only where a factor is
pub zero_product : (a b : ℤ) → a *ℤ b ≡ pos 0 → (a ≡ pos 0) ⊎ (b ≡ pos 0)
zero_product (pos zero) b e = inl refl
zero_product (pos (suc a)) (pos zero) e = inr refl
zero_product (pos (suc a)) (pos (suc b)) e = absurd (omega (arith, ints))
zero_product (pos (suc a)) (negsuc b) e = absurd (omega (arith, ints))
zero_product (negsuc a) (pos zero) e = inr refl
zero_product (negsuc a) (pos (suc b)) e = absurd (omega (arith, ints))
zero_product (negsuc a) (negsuc b) e = absurd (omega (arith, ints))

-- so a number whose product with one above 0 is 0 is itself 0
pub cancel_zero : (a b : ℤ) → pos 0 <ℤ a → a *ℤ b ≡ pos 0 → b ≡ pos 0
cancel_zero a b h e = go (zero_product a b e)
  where
    go : (a ≡ pos 0) ⊎ (b ≡ pos 0) → b ≡ pos 0
    go (inl z) = absurd (omega (arith, ints))
    go (inr z) = z

pub zero_times : (a b : ℤ) → a ≡ pos 0 → a *ℤ b ≡ pos 0
zero_times a b e = ap (λ (x : ℤ). x *ℤ b) e ∙ nothing b
  where
    nothing : (b : ℤ) → pos 0 *ℤ b ≡ pos 0
    nothing (pos b) = omega (arith, ints)
    nothing (negsuc b) = omega (arith, ints)

-- ---- tests and facts
-- the tests of less and of at most: when they pass, when they fail, and what each answer says
pub less_yes : (a b : ℤ) → a <ℤ b → int_lt a b ≡ true
less_yes a b h = grind (arith, ints)

pub less_no : (a b : ℤ) → b ≤ℤ a → int_lt a b ≡ false
less_no a b h = grind (arith, ints)

pub less_from : (a b : ℤ) → int_lt a b ≡ true → a <ℤ b
less_from a b e = omega (arith, ints)

pub not_less_from : (a b : ℤ) → int_lt a b ≡ false → b ≤ℤ a
not_less_from a b e = omega (arith, ints)

pub at_most_yes : (a b : ℤ) → a ≤ℤ b → int_le a b ≡ true
at_most_yes a b h = grind (arith, ints)

pub at_most_no : (a b : ℤ) → b <ℤ a → int_le a b ≡ false
at_most_no a b h = grind (arith, ints)

pub at_most_from : (a b : ℤ) → int_le a b ≡ true → a ≤ℤ b
at_most_from a b e = omega (arith, ints)

pub not_at_most_from : (a b : ℤ) → int_le a b ≡ false → b <ℤ a
not_at_most_from a b e = omega (arith, ints)

-- two tests with the same meaning give the same
pub same_at_most : (a b c d : ℤ) → (a ≤ℤ b → c ≤ℤ d) → (c ≤ℤ d → a ≤ℤ b) → int_le a b ≡ int_le c d
same_at_most a b c d f g = grind (arith, ints)

pub same_less : (a b c d : ℤ) → (a <ℤ b → c <ℤ d) → (c <ℤ d → a <ℤ b) → int_lt a b ≡ int_lt c d
same_less a b c d f g = grind (arith, ints)
