-- The coordinate that a value is rounded to is the nearest one, and no other is.
use Rattle.std.proofs.Common.{◌≡◌, sym, ℕ, ◌+◌, ◌*◌, ◌<◌, ℤ, pos, neg_ℤ, ◌+ℤ◌, ◌-ℤ◌, ◌*ℤ◌, ◌≤ℤ◌, ◌<ℤ◌, [], ◌∷◌, ◌≤◌, arith}
use Rattle.std.proofs.lemmas.Nat.{mul-le}
use borrow.Author.Differences.{ints}
use Rattle.std.specs.Int.{int_div_euclid}
use Rattle.basics.proofs.Ring.{solve, var, lit, ◌⊕◌, ◌⊖◌, ◌⊗◌}
use Rattle.wkb.specs.Doubles.{one}
use Rattle.wkb.specs.Grids.{Axis, IsAxis, IsNearest, past, nearest}
use Rattle.wkb.proofs.Floors.{floor_low, floor_high, floor_is}
use Rattle.wkb.proofs.Sizes.{some_one}

-- the number that is divided, and what it is divided by
abbrev number : Axis → ℤ → ℤ
number axis value = pos 2 *ℤ past axis value (pos 0) +ℤ pos (axis.step * one)

abbrev divisor : Axis → ℕ
divisor axis = 2 * axis.step * one

-- the number, less a multiple of the divisor, is twice the way from a coordinate and a step
turned : (v p o t u n : ℤ) → (pos 2 *ℤ (v *ℤ p -ℤ (o +ℤ pos 0 *ℤ t) *ℤ u) +ℤ t *ℤ u) -ℤ n *ℤ (pos 2 *ℤ t *ℤ u)
    ≡ pos 2 *ℤ (v *ℤ p -ℤ (o +ℤ n *ℤ t) *ℤ u) +ℤ t *ℤ u
turned v p o t u n = solve (v ∷ p ∷ o ∷ t ∷ u ∷ n ∷ [])
    ((lit (pos 2) ⊗ (var 0 ⊗ var 1 ⊖ (var 2 ⊕ lit (pos 0) ⊗ var 3) ⊗ var 4) ⊕ var 3 ⊗ var 4) ⊖ var 5 ⊗
    (lit (pos 2) ⊗ var 3 ⊗ var 4))
    (lit (pos 2) ⊗ (var 0 ⊗ var 1 ⊖ (var 2 ⊕ var 5 ⊗ var 3) ⊗ var 4) ⊕ var 3 ⊗ var 4) tt

way : (axis : Axis) (value n : ℤ) → number axis value -ℤ n *ℤ pos (divisor axis)
    ≡ pos 2 *ℤ past axis value n +ℤ pos (axis.step * one)
way axis value n = turned value (pos axis.parts) axis.origin (pos axis.step) (pos one) n

some_product : (t : ℕ) → 0 < t → 0 < 2 * t * one
some_product t h = scaled t one h some_one
  where
    scaled : (t u : ℕ) → 0 < t → 0 < u → 0 < 2 * t * u
    scaled t u h k = let product : 1 * 1 ≤ t * u = mul-le 1 1 t u h k in omega (arith, product)

twice : (t u : ℕ) → 2 * t * u ≡ t * u + t * u
twice t u = omega arith

pub is_nearest : (axis : Axis) (value : ℤ) → IsAxis axis → IsNearest axis value (nearest axis value)
unfolding nearest
is_nearest axis value is =
    let q = int_div_euclid (number axis value) (pos (divisor axis)) in
    let some : 0 < divisor axis = some_product axis.step is.some_step in
    record {
      not_before = low (number axis value) (q *ℤ pos (divisor axis)) (pos 2 *ℤ past axis value q) (axis.step * one)
          (way axis value q) (floor_low (number axis value) (divisor axis) some);
      not_behind = high (number axis value) (q *ℤ pos (divisor axis)) (pos 2 *ℤ past axis value q) (axis.step * one)
          (divisor axis) (twice axis.step one) (way axis value q) (floor_high (number axis value) (divisor axis) some);
    }
  where
    low : (z m w : ℤ) (s : ℕ) → z -ℤ m ≡ w +ℤ pos s → m ≤ℤ z → neg_ℤ (pos s) ≤ℤ w
    low z m w s e h = omega (arith, ints, e, h)

    high : (z m w : ℤ) (s d : ℕ) → d ≡ s + s → z -ℤ m ≡ w +ℤ pos s → z <ℤ (m +ℤ pos d) → w <ℤ pos s
    high z m w s d t e h = omega (arith, ints, t, e, h)

pub no_other : (axis : Axis) (value other : ℤ) → IsAxis axis → IsNearest axis value other → other ≡ nearest axis value
unfolding nearest
no_other axis value other is near = sym (floor_is (number axis value) other (divisor axis) (some_product axis.step is.some_step)
    (low (number axis value) (other *ℤ pos (divisor axis)) (pos 2 *ℤ past axis value other) (axis.step * one)
    (way axis value other) near.not_before)
    (high (number axis value) (other *ℤ pos (divisor axis)) (pos 2 *ℤ past axis value other) (axis.step * one) (divisor axis)
    (twice axis.step one) (way axis value other) near.not_behind))
  where
    low : (z m w : ℤ) (s : ℕ) → z -ℤ m ≡ w +ℤ pos s → neg_ℤ (pos s) ≤ℤ w → m ≤ℤ z
    low z m w s e h = omega (arith, ints, e, h)

    high : (z m w : ℤ) (s d : ℕ) → d ≡ s + s → z -ℤ m ≡ w +ℤ pos s → w <ℤ pos s → z <ℤ (m +ℤ pos d)
    high z m w s d t e h = omega (arith, ints, t, e, h)
