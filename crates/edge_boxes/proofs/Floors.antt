-- The floor and the ceiling of a quotient.
use Rattle.std.proofs.Common.{true, false, ℕ, ◌+◌, ◌*◌, ◌/◌, ◌%◌, ◌<◌, ◌≤◌, ℤ, pos, negsuc, ◌+ℤ◌, ◌-ℤ◌, ◌*ℤ◌, ◌≤ℤ◌, ◌<ℤ◌, int_le, ◌≡◌, ◌⊎◌, inl, inr, sym, ap, ◌∙◌, [], ◌∷◌, arith}
use borrow.Author.Differences.{ints}
use Rattle.std.specs.Prelude.{unsigned_abs}
use Rattle.std.specs.Int.{int_div_euclid}
use Rattle.std.proofs.Math.Nat.{div-add-mod, mod-lt}
use lib.Signed.{≤ℤ_refl}
use mir.Syntax.{w32}
use mir.Val.{SFits}
use Rattle.geometry_model.specs.WellKnownText.{coordinate_limit}
use Rattle.basics.proofs.Ring.{solve, var, lit, ◌⊖◌, ◌⊗◌}
use Rattle.basics.proofs.Signs.{plus_plus, at_most_or_less, same_at_most, at_most_yes, at_most_no, at_most_from, not_at_most_from}
use Rattle.basics.proofs.Orders.{weak_positive, gap_weak}
use Rattle.edge_boxes.specs.BoxCells.{IsFloor, IsCeiling}

-- a floor is what its multiple and the next one show
by_multiples : (n w q : ℤ) → pos 0 <ℤ w → (q *ℤ w) ≤ℤ n → n <ℤ (q *ℤ w +ℤ w) → IsFloor n w q
by_multiples n w q hw low high a = same_at_most (a *ℤ w) n a q (λ h. go h (at_most_or_less a q))
    (λ h. into (a *ℤ w) (q *ℤ w) ((q -ℤ a) *ℤ w) (solve (q ∷ a ∷ w ∷ []) ((var 0 ⊖ var 1) ⊗ var 2) (var 0 ⊗ var 2 ⊖ var 1 ⊗ var 2) tt) (plus_plus (q -ℤ a) w (gap_weak a q h) (weak_positive w hw)) low)
  where
    into : (s t d : ℤ) → d ≡ t -ℤ s → pos 0 ≤ℤ d → t ≤ℤ n → s ≤ℤ n
    into s t d e h k = omega (arith, ints)

    beyond : (a q : ℤ) → q <ℤ a → pos 0 ≤ℤ (a -ℤ q -ℤ pos 1)
    beyond a q h = omega (arith, ints)

    apart : (s t d : ℤ) → d ≡ s -ℤ t -ℤ w → pos 0 ≤ℤ d → s ≤ℤ n → n <ℤ (t +ℤ w) → ⊥
    apart s t d e h k l = omega (arith, ints)

    go : (a *ℤ w) ≤ℤ n → (a ≤ℤ q) ⊎ (q <ℤ a) → a ≤ℤ q
    go h (inl l) = l
    go h (inr l) = absurd (apart (a *ℤ w) (q *ℤ w) ((a -ℤ q -ℤ pos 1) *ℤ w) (solve (a ∷ q ∷ w ∷ []) ((var 0 ⊖ var 1 ⊖ lit (pos 1)) ⊗ var 2) (var 0 ⊗ var 2 ⊖ var 1 ⊗ var 2 ⊖ var 2) tt)
        (plus_plus (a -ℤ q -ℤ pos 1) w (beyond a q l) (weak_positive w hw)) h high)

-- over the denominator 1 a number is its own floor and ceiling
pub floor_over_one : (n w q : ℤ) → w ≡ pos 1 → q ≡ n → IsFloor n w q
floor_over_one n w q e f = rw (e, f) (λ a. ap (λ (z : ℤ). int_le z n) (solve (a ∷ []) (var 0 ⊗ lit (pos 1)) (var 0) tt))

pub ceiling_over_one : (n w q : ℤ) → w ≡ pos 1 → q ≡ n → IsCeiling n w q
ceiling_over_one n w q e f = rw (e, f) (λ a. ap (λ (z : ℤ). int_le n z) (solve (a ∷ []) (var 0 ⊗ lit (pos 1)) (var 0) tt))

-- ---- the quotient rounded down
-- the divisor times the rounded quotient is at most the number, and the next multiple is more: from 0 on, and below 0
low_pos : (a b : ℕ) → (pos (a / b) *ℤ pos b) ≤ℤ pos a
low_pos a b = let e : b * (a / b) + a % b ≡ a = div-add-mod a b in omega (arith, ints, e)

high_pos : (a b : ℕ) → 0 < b → pos a <ℤ (pos (a / b) *ℤ pos b +ℤ pos b)
high_pos a b h = let e : b * (a / b) + a % b ≡ a = div-add-mod a b in let f : a % b < b = mod-lt a h in omega (arith, ints, e, f)

low_neg : (a b : ℕ) → 0 < b → (negsuc (a / b) *ℤ pos b) ≤ℤ negsuc a
low_neg a b h = let e : b * (a / b) + a % b ≡ a = div-add-mod a b in let f : a % b < b = mod-lt a h in omega (arith, ints, e, f)

high_neg : (a b : ℕ) → negsuc a <ℤ (negsuc (a / b) *ℤ pos b +ℤ pos b)
high_neg a b = let e : b * (a / b) + a % b ≡ a = div-add-mod a b in omega (arith, ints, e)

above_zero : (b : ℕ) → pos 0 <ℤ pos b → 0 < b
above_zero b h = omega (arith, ints, h)

-- so the Euclidean quotient by a divisor above 0 is the floor
pub euclid_floor : (n w : ℤ) → pos 0 <ℤ w → IsFloor n w (int_div_euclid n w)
euclid_floor (pos a) (pos b) h = by_multiples (pos a) (pos b) (pos (a / b)) h (low_pos a b) (high_pos a b (above_zero b h))
euclid_floor (negsuc a) (pos b) h = by_multiples (negsuc a) (pos b) (negsuc (a / b)) h (low_neg a b (above_zero b h)) (high_neg a b)
euclid_floor n (negsuc b) h = absurd (omega (arith, ints, h))

-- ---- the floor of a quotient within the limit of coordinates
-- the floor of a coordinate within the limit is within it too, since the limit is a whole number
pub floor_short : (n w q : ℤ) → pos 0 <ℤ w → unsigned_abs n ≤ coordinate_limit * unsigned_abs w → IsFloor n w q → unsigned_abs q ≤ coordinate_limit
floor_short n w q hw h is = both q (from (is (negsuc 9999999)) (least n w hw h)) (upper (is (pos 10000001)) (beyond n w hw h))
  where
    least : (n w : ℤ) → pos 0 <ℤ w → unsigned_abs n ≤ coordinate_limit * unsigned_abs w → int_le (negsuc 9999999 *ℤ w) n ≡ true
    least n w hw h = at_most_yes (negsuc 9999999 *ℤ w) n (omega (arith, ints, hw, h))

    beyond : (n w : ℤ) → pos 0 <ℤ w → unsigned_abs n ≤ coordinate_limit * unsigned_abs w → int_le (pos 10000001 *ℤ w) n ≡ false
    beyond n w hw h = at_most_no (pos 10000001 *ℤ w) n (omega (arith, ints, hw, h))

    from : int_le (negsuc 9999999 *ℤ w) n ≡ int_le (negsuc 9999999) q → int_le (negsuc 9999999 *ℤ w) n ≡ true → negsuc 9999999 ≤ℤ q
    from e f = at_most_from (negsuc 9999999) q (sym e ∙ f)

    upper : int_le (pos 10000001 *ℤ w) n ≡ int_le (pos 10000001) q → int_le (pos 10000001 *ℤ w) n ≡ false → q <ℤ pos 10000001
    upper e f = not_at_most_from (pos 10000001) q (sym e ∙ f)

    both : (q : ℤ) → negsuc 9999999 ≤ℤ q → q <ℤ pos 10000001 → unsigned_abs q ≤ coordinate_limit
    both q h k = omega (arith, ints, h, k)

-- a number within the limit of coordinates fits 32 bits
pub short_fits : (q : ℤ) → unsigned_abs q ≤ coordinate_limit → SFits w32 q
short_fits q h = omega (arith, ints, h)

-- ---- ceilings by floors
-- where the quotient is exact it is the ceiling
pub ceiling_at : (n w q : ℤ) → pos 0 <ℤ w → q *ℤ w ≡ n → IsCeiling n w q
ceiling_at n w q hw e a = same_at_most n (a *ℤ w) q a (λ h. go h (at_most_or_less q a))
    (λ h. into (a *ℤ w) (q *ℤ w) ((a -ℤ q) *ℤ w) (solve (a ∷ q ∷ w ∷ []) ((var 0 ⊖ var 1) ⊗ var 2) (var 0 ⊗ var 2 ⊖ var 1 ⊗ var 2) tt) (plus_plus (a -ℤ q) w (gap_weak q a h) (weak_positive w hw)) e)
  where
    into : (s t d : ℤ) → d ≡ s -ℤ t → pos 0 ≤ℤ d → t ≡ n → n ≤ℤ s
    into s t d e h k = omega (arith, ints)

    beyond : (a q : ℤ) → a <ℤ q → pos 0 ≤ℤ (q -ℤ a -ℤ pos 1)
    beyond a q h = omega (arith, ints)

    apart : (s t d : ℤ) → d ≡ t -ℤ s -ℤ w → pos 0 ≤ℤ d → pos 0 <ℤ w → t ≡ n → n ≤ℤ s → ⊥
    apart s t d e h k f l = omega (arith, ints)

    go : n ≤ℤ (a *ℤ w) → (q ≤ℤ a) ⊎ (a <ℤ q) → q ≤ℤ a
    go h (inl l) = l
    go h (inr l) = absurd (apart (a *ℤ w) (q *ℤ w) ((q -ℤ a -ℤ pos 1) *ℤ w) (solve (q ∷ a ∷ w ∷ []) ((var 0 ⊖ var 1 ⊖ lit (pos 1)) ⊗ var 2) (var 0 ⊗ var 2 ⊖ var 1 ⊗ var 2 ⊖ var 2) tt)
        (plus_plus (q -ℤ a -ℤ pos 1) w (beyond a q l) (weak_positive w hw)) hw e h)

-- where it isn't, the ceiling is one more than the floor, as no whole number lies between the two
pub ceiling_over : (n w q : ℤ) → pos 0 <ℤ w → IsFloor n w q → (q *ℤ w ≡ n → ⊥) → IsCeiling n w (q +ℤ pos 1)
ceiling_over n w q hw is no_whole a = same_at_most n (a *ℤ w) (q +ℤ pos 1) a (λ h. go h (at_most_or_less (q +ℤ pos 1) a)) (λ h. from (not_at_most_from (a *ℤ w) n (is a ∙ at_most_no a q (past h))))
  where
    past : (q +ℤ pos 1) ≤ℤ a → q <ℤ a
    past h = omega (arith, ints)

    from : n <ℤ (a *ℤ w) → n ≤ℤ (a *ℤ w)
    from h = omega (arith, ints)

    up_to : a <ℤ (q +ℤ pos 1) → a ≤ℤ q
    up_to h = omega (arith, ints)

    gap : a ≤ℤ q → pos 0 ≤ℤ (q -ℤ a)
    gap h = omega (arith, ints)

    same : (s t d : ℤ) → d ≡ t -ℤ s → pos 0 ≤ℤ d → t ≤ℤ n → n ≤ℤ s → t ≡ n
    same s t d e h k l = omega (arith, ints)

    go : n ≤ℤ (a *ℤ w) → ((q +ℤ pos 1) ≤ℤ a) ⊎ (a <ℤ (q +ℤ pos 1)) → (q +ℤ pos 1) ≤ℤ a
    go h (inl l) = l
    go h (inr l) = absurd (no_whole (same (a *ℤ w) (q *ℤ w) ((q -ℤ a) *ℤ w) (solve (q ∷ a ∷ w ∷ []) ((var 0 ⊖ var 1) ⊗ var 2) (var 0 ⊗ var 2 ⊖ var 1 ⊗ var 2) tt)
        (plus_plus (q -ℤ a) w (gap (up_to l)) (weak_positive w hw)) (at_most_from (q *ℤ w) n (is q ∙ at_most_yes q q (≤ℤ_refl q))) h))

-- one more than a number within the limit of coordinates still fits 32 bits
pub next_fits : (q : ℤ) → unsigned_abs q ≤ coordinate_limit → SFits w32 (q +ℤ pos 1)
next_fits q h = omega (arith, ints, h)

-- ---- of numbers read where they come from
pub floor_as : (n w q n' w' q' : ℤ) → n ≡ n' → w ≡ w' → q ≡ q' → IsFloor n w q → IsFloor n' w' q'
floor_as n w q n' w' q' e f g h = rw (← e, ← f, ← g) h

pub ceiling_as : (n w q n' w' q' : ℤ) → n ≡ n' → w ≡ w' → q ≡ q' → IsCeiling n w q → IsCeiling n' w' q'
ceiling_as n w q n' w' q' e f g h = rw (← e, ← f, ← g) h
