-- The order of whole numbers, and comparisons one after another.
use Rattle.std.proofs.Common.{◌≡◌, refl, ℕ, suc, ◌<◌, ◌⊎◌, inl, inr, true, false, ◌&&◌, ◌||◌, ℤ, pos, ◌+ℤ◌, ◌-ℤ◌, ◌≤ℤ◌, ◌<ℤ◌, int_le, int_lt, int_cmp, is_lt, Ordering, Less, Equal, Greater, arith}
use Rattle.std.specs.Int.{int_max, int_min}
use Rattle.std.specs.Ordering.{ordering_then}
use Rattle.std.proofs.lemmas.Int.{clamps}
use borrow.Author.Differences.{ints}

-- ---- above, at and below 0
-- what is above 0 is at least 0
pub weak_positive : (x : ℤ) → pos 0 <ℤ x → pos 0 ≤ℤ x
weak_positive x h = omega (arith, ints)

-- what is below 0 is at most 0
pub weak_negative : (x : ℤ) → x <ℤ pos 0 → x ≤ℤ pos 0
weak_negative x h = omega (arith, ints)

-- a natural number is at least 0
pub natural_weak : (n : ℕ) → pos 0 ≤ℤ pos n
natural_weak n = omega (arith, ints)

-- the next of one is above 0
pub next_positive : (n : ℕ) → pos 0 <ℤ pos (suc n)
next_positive n = omega (arith, ints)

-- what is above 0 isn't 0
pub positive_not_zero : (x : ℤ) → pos 0 <ℤ x → x ≡ pos 0 → ⊥
positive_not_zero x h e = omega (arith, ints)

-- what is 0 isn't above 0
pub zero_not_positive : (x : ℤ) → x ≡ pos 0 → pos 0 <ℤ x → ⊥
zero_not_positive x e h = omega (arith, ints)

-- what equals something above 0 is above 0
pub positive_same : (x y : ℤ) → x ≡ y → pos 0 <ℤ y → pos 0 <ℤ x
positive_same x y e h = omega (arith, ints)

-- a natural number above 0 is one as an integer
pub natural_positive : (n : ℕ) → 0 < n → pos 0 <ℤ pos n
natural_positive n h = omega (arith, ints)

-- 1 is above 0
pub one_above : pos 0 <ℤ pos 1
one_above = omega (arith, ints)

-- and isn't 0
pub one_not_zero : pos 1 ≡ pos 0 → ⊥
one_not_zero e = omega (arith, ints)

-- 0 less something below 0 is at least 0
pub negative_turned : (x : ℤ) → x <ℤ pos 0 → pos 0 ≤ℤ (pos 0 -ℤ x)
negative_turned x h = omega (arith, ints)

-- or above 0
pub negative_flipped : (x : ℤ) → x <ℤ pos 0 → pos 0 <ℤ (pos 0 -ℤ x)
negative_flipped x h = omega (arith, ints)

-- 0 less something at most 0 is at least 0
pub weak_turned : (x : ℤ) → x ≤ℤ pos 0 → pos 0 ≤ℤ (pos 0 -ℤ x)
weak_turned x h = omega (arith, ints)

-- sums of what is above 0, or at least 0
pub sum_positive : (x y : ℤ) → pos 0 <ℤ x → pos 0 <ℤ y → pos 0 <ℤ (x +ℤ y)
sum_positive x y h k = omega (arith, ints)

pub sum_weak : (x y : ℤ) → pos 0 ≤ℤ x → pos 0 ≤ℤ y → pos 0 ≤ℤ (x +ℤ y)
sum_weak x y h k = omega (arith, ints)

pub sum_first_positive : (x y : ℤ) → pos 0 <ℤ x → pos 0 ≤ℤ y → pos 0 <ℤ (x +ℤ y)
sum_first_positive x y h k = omega (arith, ints)

pub sum_last_positive : (x y : ℤ) → pos 0 ≤ℤ x → pos 0 <ℤ y → pos 0 <ℤ (x +ℤ y)
sum_last_positive x y h k = omega (arith, ints)

-- ---- from a number to another
-- to a greater one it is more than 0
pub gap_positive : (x y : ℤ) → x <ℤ y → pos 0 <ℤ (y -ℤ x)
gap_positive x y h = omega (arith, ints)

-- and to one that isn't less at least 0
pub gap_weak : (x y : ℤ) → x ≤ℤ y → pos 0 ≤ℤ (y -ℤ x)
gap_weak x y h = omega (arith, ints)

-- and to an equal one 0
pub gap_none : (x y : ℤ) → x ≡ y → y -ℤ x ≡ pos 0
gap_none x y e = omega (arith, ints)

-- and the other way round
pub less_from_gap : (x y : ℤ) → pos 0 <ℤ (y -ℤ x) → x <ℤ y
less_from_gap x y h = omega (arith, ints)

pub at_most_from_gap : (x y : ℤ) → pos 0 ≤ℤ (y -ℤ x) → x ≤ℤ y
at_most_from_gap x y h = omega (arith, ints)

pub same_from_gap : (x y : ℤ) → y -ℤ x ≡ pos 0 → x ≡ y
same_from_gap x y e = omega (arith, ints)

-- numbers without a difference are equal
pub no_difference : (x y : ℤ) → x -ℤ y ≡ pos 0 → x ≡ y
no_difference x y e = omega (arith, ints)

-- ---- two or three numbers
-- less is at most
pub less_weak : (x y : ℤ) → x <ℤ y → x ≤ℤ y
less_weak x y h = omega (arith, ints)

-- equal numbers aren't less
pub same_not_less : (x y : ℤ) → x ≡ y → x <ℤ y → ⊥
same_not_less x y e h = omega (arith, ints)

-- less and less
pub less_less : (x y z : ℤ) → x <ℤ y → y <ℤ z → x <ℤ z
less_less x y z h k = omega (arith, ints)

-- less and at most
pub less_at_most : (x y z : ℤ) → x <ℤ y → y ≤ℤ z → x <ℤ z
less_at_most x y z h k = omega (arith, ints)

-- at most and less
pub at_most_less : (x y z : ℤ) → x ≤ℤ y → y <ℤ z → x <ℤ z
at_most_less x y z h k = omega (arith, ints)

-- at most and at most
pub at_most_at_most : (x y z : ℤ) → x ≤ℤ y → y ≤ℤ z → x ≤ℤ z
at_most_at_most x y z h k = omega (arith, ints)

-- the lesser of two is at most the first
pub min_first : (x y : ℤ) → int_min x y ≤ℤ x
min_first x y = omega (arith, ints, clamps)

-- the greater is at least the first
pub max_first : (x y : ℤ) → x ≤ℤ int_max x y
max_first x y = omega (arith, ints, clamps)

-- ---- tests
-- what is at most the lesser passes as at most
pub still_at_most : (x y z : ℤ) → x ≤ℤ y → int_le y z ≡ true → int_le x z ≡ true
still_at_most x y z h e = grind (arith, ints)

-- and as less
pub still_less : (x y z : ℤ) → x ≤ℤ y → int_lt y z ≡ true → int_lt x z ≡ true
still_less x y z h e = grind (arith, ints)

-- the same of equal numbers
pub same_less_than : (a b x y : ℤ) → a ≡ x → b ≡ y → int_lt a b ≡ true → x <ℤ y
same_less_than a b x y e f h = grind (arith, ints)

-- what is less is at most one less
pub before : (x y : ℤ) → x <ℤ y → int_le x (y -ℤ pos 1) ≡ true
before x y h = grind (arith, ints)

-- a number between two others, which are in either order
pub between_cases : (a b x : ℤ) → (int_le a x && int_le x b) || (int_le b x && int_le x a) ≡ true → ((a ≤ℤ x) × (x ≤ℤ b)) ⊎ ((b ≤ℤ x) × (x ≤ℤ a))
between_cases a b x e = grind (arith, ints)

-- what doesn't compare as less is at least the other
pub cmp_not_less : (a b : ℤ) → is_lt (int_cmp b a) ≡ false → a ≤ℤ b
cmp_not_less a b e = grind (arith, ints)

-- ---- a comparison and then another
-- both find equal where the two together do
pub then_equal : (o u : Ordering) → ordering_then o u ≡ Equal → (o ≡ Equal) × (u ≡ Equal)
then_equal Less u e = cc
then_equal Equal u e = (refl, e)
then_equal Greater u e = cc

-- the first finds less, or equal and then the second does
pub then_less : (o u : Ordering) → ordering_then o u ≡ Less → (o ≡ Less) ⊎ ((o ≡ Equal) × (u ≡ Less))
then_less Less u e = inl refl
then_less Equal u e = inr (refl, e)
then_less Greater u e = cc
