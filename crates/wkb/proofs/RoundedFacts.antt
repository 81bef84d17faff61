-- The nearest coordinate of a value, by the ticks that it is rounded down to.
use Rattle.std.proofs.Common.{◌≡◌, refl, sym, ap, ap₂, ◌∙◌, subst, ℕ, suc, ◌+◌, ◌-◌, ◌*◌, ◌/◌, ◌%◌, ◌^◌, ◌<◌, ◌≤◌, Bool, true, false, not, cond, ◌&&◌, ℤ, pos, negsuc, neg_ℤ, to_z, of_z, ◌+ℤ◌, ◌-ℤ◌, ◌*ℤ◌, ◌≤ℤ◌, ◌<ℤ◌, [], ◌∷◌, arith, ◌⊎◌, inl, inr}
use borrow.Author.Differences.{ints}
use Rattle.std.specs.Prelude.{unsigned_abs}
use Rattle.std.specs.Int.{int_div_euclid}
use Rattle.std.specs.Ordering.{int_eq}
use Rattle.std.proofs.Math.Nat.{div-eq_of_lt-le, mul-div_cancel}
use Rattle.std.proofs.lemmas.Nat.{div-add-mod', mod_below}
use Rattle.std.proofs.lemmas.Bool.Decides.{same_from_decides, Decides-int_eq}
use mir.Syntax.{w32, w128}
use mir.Val.{SFits}
use Rattle.std.proofs.lemmas.Int.{to_z-of_z}
use Rattle.basics.proofs.Ring.{solve, var, lit, ◌⊕◌, ◌⊖◌, ◌⊗◌}
use Rattle.basics.proofs.Signs.{zero_times}
use Rattle.basics.proofs.Bools.{and_first, and_second}
use Rattle.basics.proofs.Tests.{equal_yes, equal_from, not_equal_from, same_equal}
use Rattle.geometry_model.specs.WellKnownText.{coordinate_limit}
use Rattle.wkb.specs.Doubles.{one}
use Rattle.wkb.specs.Grids as grid
use Rattle.wkb.specs.Grids.{Axis, IsAxis, past, nearest, is_on, ticks_away, ticks}
use Rattle.wkb.specs.Ticks.{in_ticks, ticks_past, nearest_tick, whole_size, IsFar, IsRoundedDown}
use Rattle.wkb.specs.Rounding.{IsRounded}
use Rattle.wkb.specs.declared.doubles.Ticks.{Ticks}
use Rattle.wkb.specs.declared.grids.Rounded.{Rounded}
use Rattle.wkb.proofs.Floors.{floor_shifted, floor_scaled, floor_floor, floor_beyond, floor_below}
use Rattle.wkb.proofs.Sizes.{some_one}

-- ---- the nearest coordinate
-- twice the way from the origin and a step, times half the ticks of a part, is the way from the origin and half a step, in ticks
turned : (v p o t u : ℤ) → (pos 2 *ℤ (v *ℤ p -ℤ (o +ℤ pos 0 *ℤ t) *ℤ u) +ℤ t *ℤ u) *ℤ pos 524288
    ≡ v *ℤ p *ℤ pos 1048576 +ℤ (t *ℤ pos 524288 -ℤ o *ℤ pos 1048576) *ℤ u
turned v p o t u = solve (v ∷ p ∷ o ∷ t ∷ u ∷ [])
    ((lit (pos 2) ⊗ (var 0 ⊗ var 1 ⊖ (var 2 ⊕ lit (pos 0) ⊗ var 3) ⊗ var 4) ⊕ var 3 ⊗ var 4) ⊗ lit (pos 524288))
    (var 0 ⊗ var 1 ⊗ lit (pos 1048576) ⊕ (var 3 ⊗ lit (pos 524288) ⊖ var 2 ⊗ lit (pos 1048576)) ⊗ var 4) tt

divisors : (t u : ℕ) → 524288 * (2 * t * u) ≡ u * (t * 1048576)
divisors t u = omega arith

-- so the ticks, from the origin and half a step on, over those of a step are it
pub nearest_by_ticks : (axis : Axis) (value down : ℤ) → down ≡ int_div_euclid (in_ticks axis.parts value) (pos one)
    → nearest axis value ≡ nearest_tick axis down
unfolding nearest
nearest_by_ticks axis value down is =
    let shift = pos axis.step *ℤ pos 524288 -ℤ axis.origin *ℤ pos 1048576 in
    let number = pos 2 *ℤ past axis value (pos 0) +ℤ pos (axis.step * one) in
    sym (floor_scaled number 524288 (2 * axis.step * one) (omega arith))
    ∙ (ap₂ (λ (z : ℤ) (d : ℕ). int_div_euclid z (pos d)) (turned value (pos axis.parts) axis.origin (pos axis.step) (pos one))
    (divisors axis.step one)
    ∙ (sym (floor_floor (in_ticks axis.parts value +ℤ shift *ℤ pos one) one (axis.step * 1048576))
    ∙ ap (λ (z : ℤ). int_div_euclid z (pos (axis.step * 1048576)))
    (floor_shifted (in_ticks axis.parts value) shift one some_one ∙ ap (λ (z : ℤ). z +ℤ shift) (sym is))))

-- ---- the way to it
way : (v p o t u n : ℤ) → (v *ℤ p -ℤ (o +ℤ n *ℤ t) *ℤ u) *ℤ pos 1048576
    ≡ v *ℤ p *ℤ pos 1048576 +ℤ (pos 0 -ℤ o *ℤ pos 1048576 -ℤ n *ℤ (t *ℤ pos 1048576)) *ℤ u
way v p o t u n = solve (v ∷ p ∷ o ∷ t ∷ u ∷ n ∷ [])
    ((var 0 ⊗ var 1 ⊖ (var 2 ⊕ var 5 ⊗ var 3) ⊗ var 4) ⊗ lit (pos 1048576))
    (var 0 ⊗ var 1 ⊗ lit (pos 1048576) ⊕ (lit (pos 0) ⊖ var 2 ⊗ lit (pos 1048576) ⊖ var 5 ⊗
    (var 3 ⊗ lit (pos 1048576))) ⊗ var 4) tt

past_by_ticks : (axis : Axis) (value down n : ℤ) → down ≡ int_div_euclid (in_ticks axis.parts value) (pos one)
    → ticks_past axis down n ≡ int_div_euclid (past axis value n *ℤ pos ticks) (pos one)
past_by_ticks axis value down n is =
    let shift = pos 0 -ℤ axis.origin *ℤ pos 1048576 -ℤ n *ℤ (pos axis.step *ℤ pos 1048576) in
    sum down (axis.origin *ℤ pos 1048576) (n *ℤ (pos axis.step *ℤ pos 1048576))
    ∙ (ap (λ (z : ℤ). z +ℤ shift) is
    ∙ (sym (floor_shifted (in_ticks axis.parts value) shift one some_one)
    ∙ ap (λ (z : ℤ). int_div_euclid z (pos one)) (sym (way value (pos axis.parts) axis.origin (pos axis.step) (pos one) n))))
  where
    sum : (a b c : ℤ) → a -ℤ b -ℤ c ≡ a +ℤ (pos 0 -ℤ b -ℤ c)
    sum a b c = omega (arith, ints)

-- what is left of the way to a coordinate is what is left of the value
left_over : (axis : Axis) (value down n : ℤ)
    → past axis value n *ℤ pos ticks -ℤ ticks_past axis down n *ℤ pos one ≡ in_ticks axis.parts value -ℤ down *ℤ pos one
left_over axis value down n = solve (value ∷ pos axis.parts ∷ axis.origin ∷ pos axis.step ∷ pos one ∷ n ∷ down ∷ [])
    ((var 0 ⊗ var 1 ⊖ (var 2 ⊕ var 5 ⊗ var 3) ⊗ var 4) ⊗ lit (pos 1048576) ⊖
    (var 6 ⊖ var 2 ⊗ lit (pos 1048576) ⊖ var 5 ⊗ (var 3 ⊗ lit (pos 1048576))) ⊗ var 4)
    (var 0 ⊗ var 1 ⊗ lit (pos 1048576) ⊖ var 6 ⊗ var 4) tt

same_rest : (axis : Axis) (value down n : ℤ)
    → int_eq (down *ℤ pos one) (in_ticks axis.parts value)
    ≡ int_eq (ticks_past axis down n *ℤ pos one) (past axis value n *ℤ pos ticks)
same_rest axis value down n = same_equal (down *ℤ pos one) (in_ticks axis.parts value) (ticks_past axis down n *ℤ pos one)
    (past axis value n *ℤ pos ticks)
    (λ e. forth _ _ _ _ (left_over axis value down n) e) (λ e. back _ _ _ _ (left_over axis value down n) e)
  where
    forth : (a b c d : ℤ) → d -ℤ c ≡ b -ℤ a → a ≡ b → c ≡ d
    forth a b c d e f = omega (arith, ints, e, f)

    back : (a b c d : ℤ) → d -ℤ c ≡ b -ℤ a → c ≡ d → a ≡ b
    back a b c d e f = omega (arith, ints, e, f)

-- ---- what the ticks of a way say of it
-- whole ones of its size
size_by_floor : (z : ℤ) (d : ℕ) → 0 < d → unsigned_abs z / d
    ≡ whole_size (int_div_euclid z (pos d)) (not (int_eq (int_div_euclid z (pos d) *ℤ pos d) z))
size_by_floor (pos n) d h = refl
size_by_floor (negsuc m) d h = go (int_eq (negsuc (m / d) *ℤ pos d) (negsuc m)) refl
  where
    e : m / d * d + m % d ≡ m
    e = div-add-mod' m d

    go : (same : Bool) → int_eq (negsuc (m / d) *ℤ pos d) (negsuc m) ≡ same → suc m / d ≡ m / d + 1 - cond (not same) 1 0
    go true is = without (m / d) (equal_from (negsuc (m / d) *ℤ pos d) (negsuc m) is)
      where
        as_size : (n : ℕ) → neg_ℤ (pos n) ≡ negsuc m → n ≡ suc m
        as_size n e = omega (arith, ints, e)

        without : (q : ℕ) → negsuc q *ℤ pos d ≡ negsuc m → suc m / d ≡ q + 1 - 0
        without q same = ap (λ (n : ℕ). n / d) (sym (as_size (suc q * d) same)) ∙ (mul-div_cancel (suc q) h ∙ omega arith)
    go false is = with_rest (m / d) e (mod_below m d h) (not_equal_from (negsuc (m / d) *ℤ pos d) (negsuc m) is)
      where
        as_ints : (n : ℕ) → n ≡ suc m → neg_ℤ (pos n) ≡ negsuc m
        as_ints n e = omega (arith, ints, e)

        less : (q : ℕ) → q * d + m % d ≡ m → m % d < d → (suc q * d ≡ suc m → ⊥) → suc m < (q + 1) * d
        less q e below differ = from (suc q * d) (q * d) (over q) (again q) e differ
          where
            over : (q : ℕ) → suc q * d ≡ q * d + d
            over q = omega arith

            again : (q : ℕ) → (q + 1) * d ≡ suc q * d
            again q = omega arith

            from : (n k : ℕ) → n ≡ k + d → (q + 1) * d ≡ n → k + m % d ≡ m → (n ≡ suc m → ⊥) → suc m < (q + 1) * d
            from n k f g e differ = omega (arith, f, g, e, below, differ)

        with_rest : (q : ℕ) → q * d + m % d ≡ m → m % d < d → (negsuc q *ℤ pos d ≡ negsuc m → ⊥) → suc m / d ≡ q + 1 - 1
        with_rest q e below differ = div-eq_of_lt-le d (omega (arith, e))
            (less q e below (λ same. differ (as_ints (suc q * d) same))) ∙ omega arith

-- it is no way
on_by_floor : (p : ℤ) (d : ℕ) → 0 < d
    → (int_eq (int_div_euclid (p *ℤ pos 1048576) (pos d)) (pos 0) && int_eq (int_div_euclid (p *ℤ pos 1048576) (pos d) *ℤ pos d)
    (p *ℤ pos 1048576)) ≡ int_eq p (pos 0)
on_by_floor p d h = same_from_decides (int_eq q (pos 0) && int_eq (q *ℤ pos d) (p *ℤ pos 1048576)) (int_eq p (pos 0))
    (forth, back) (Decides-int_eq p (pos 0))
  where
    q : ℤ
    q = int_div_euclid (p *ℤ pos 1048576) (pos d)

    no_ticks : (p z : ℤ) → z ≡ p *ℤ pos 1048576 → z ≡ pos 0 → p ≡ pos 0
    no_ticks p z e f = omega (arith, ints, e, f)

    none : (q : ℤ) → q ≡ pos 0 → q *ℤ pos d ≡ pos 0
    none q e = zero_times q (pos d) e

    forth : (int_eq q (pos 0) && int_eq (q *ℤ pos d) (p *ℤ pos 1048576)) ≡ true → p ≡ pos 0
    forth e = no_ticks p (q *ℤ pos d) (equal_from (q *ℤ pos d) (p *ℤ pos 1048576)
        (and_second (int_eq q (pos 0)) (int_eq (q *ℤ pos d) (p *ℤ pos 1048576)) e))
        (none q (equal_from q (pos 0) (and_first (int_eq q (pos 0)) (int_eq (q *ℤ pos d) (p *ℤ pos 1048576)) e)))

    nothing : (d : ℕ) → int_div_euclid (pos 0) (pos d) ≡ pos 0
    nothing d = ap pos (omega arith)

    back : p ≡ pos 0 → (int_eq q (pos 0) && int_eq (q *ℤ pos d) (p *ℤ pos 1048576)) ≡ true
    back e = subst (λ (p : ℤ). (int_eq (int_div_euclid (p *ℤ pos 1048576) (pos d)) (pos 0) && int_eq
        (int_div_euclid (p *ℤ pos 1048576) (pos d) *ℤ pos d) (p *ℤ pos 1048576)) ≡ true) (sym e)
        (ap₂ (λ (a b : Bool). a && b) (equal_yes (int_div_euclid (pos 0) (pos d)) (pos 0) (nothing d))
        (equal_yes (int_div_euclid (pos 0) (pos d) *ℤ pos d) (pos 0) (none (int_div_euclid (pos 0) (pos d)) (nothing d))))

-- ---- together
-- a size with ticks
sized : (z : ℤ) → unsigned_abs (z *ℤ pos 1048576) ≡ unsigned_abs z * 1048576
sized (pos n) = refl
sized (negsuc n) = signed (suc n * 1048576)
  where
    signed : (n : ℕ) → unsigned_abs (neg_ℤ (pos n)) ≡ n
    signed n = omega (arith, ints)

pub is_rounded : (axis : Axis) (value : ℤ) (found : Ticks) (rounded : Rounded) (past : ℤ)
    → IsRoundedDown (in_ticks axis.parts value) found
    → rounded.coordinate ≡ nearest_tick axis found.down → unsigned_abs rounded.coordinate ≤ coordinate_limit
    → past ≡ ticks_past axis found.down rounded.coordinate → rounded.is_on ≡ (int_eq past (pos 0) && not found.has_rest)
    → rounded.moved ≡ whole_size past found.has_rest
    → IsRounded axis value rounded
unfolding is_on ticks_away
is_rounded axis value found rounded past down by within way on size = record {
  coordinate = is;
  within = within;
  is_on = on ∙ (ap₂ (λ (z : ℤ) (b : Bool). int_eq z (pos 0) && not b) way_is rest_is
      ∙ (ap (λ (b : Bool). int_eq (int_div_euclid z (pos one)) (pos 0) && b)
      (twice (int_eq (int_div_euclid z (pos one) *ℤ pos one) z))
      ∙ (on_by_floor p one some_one ∙ ap (λ (n : ℤ). int_eq (grid.past axis value n) (pos 0)) is)));
  moved = size ∙ (ap₂ whole_size way_is rest_is ∙ (sym (size_by_floor z one some_one)
      ∙ (ap (λ (n : ℕ). n / one) (sized p) ∙ ap (λ (n : ℤ). unsigned_abs (grid.past axis value n) * 1048576 / one) is)));
}
  where
    p : ℤ
    p = grid.past axis value rounded.coordinate

    z : ℤ
    z = p *ℤ pos 1048576

    is : rounded.coordinate ≡ nearest axis value
    is = by ∙ sym (nearest_by_ticks axis value found.down down.down)

    way_is : past ≡ int_div_euclid z (pos one)
    way_is = way ∙ past_by_ticks axis value found.down rounded.coordinate down.down

    rest_is : found.has_rest ≡ not (int_eq (int_div_euclid z (pos one) *ℤ pos one) z)
    rest_is = down.rest ∙ (ap not (same_rest axis value found.down rounded.coordinate)
        ∙ ap (λ (q : ℤ). not (int_eq (q *ℤ pos one) z)) (past_by_ticks axis value found.down rounded.coordinate down.down))

    twice : (b : Bool) → not (not b) ≡ b
    twice true = refl
    twice false = refl

-- ---- past the limit
far_up : (axis : Axis) (down : ℤ) → IsAxis axis → pos (2 ^ 96) ≤ℤ down → coordinate_limit < unsigned_abs (nearest_tick axis down)
far_up axis down is far = past_limit _ (floor_beyond _ (axis.step * 1048576) 1048576000000000000000 coordinate_limit
    (omega (arith, is.some_step)) (omega (arith, is.short_step)) (most axis.step axis.origin down is.near_origin far))
  where
    most : (t : ℕ) (o down : ℤ) → unsigned_abs o ≤ 2 ^ 63 → pos (2 ^ 96) ≤ℤ down
        → pos 10485761048576000000000000000 ≤ℤ (down +ℤ (pos t *ℤ pos 524288 -ℤ o *ℤ pos 1048576))
    most t o down h far = omega (arith, ints, h, far)

    past_limit : (q : ℤ) → pos 10000000 <ℤ q → 10000000 < unsigned_abs q
    past_limit q h = omega (arith, ints, h)

far_down : (axis : Axis) (down : ℤ) → IsAxis axis → down ≤ℤ neg_ℤ (pos (2 ^ 96))
    → coordinate_limit < unsigned_abs (nearest_tick axis down)
far_down axis down is far = past_limit _ (floor_below _ (axis.step * 1048576) 1048576000000000000000 coordinate_limit
    (omega (arith, is.some_step)) (omega (arith, is.short_step))
    (most axis.step axis.origin down is.short_step is.near_origin far))
  where
    most : (t : ℕ) (o down : ℤ) → t ≤ 1000000000000000 → unsigned_abs o ≤ 2 ^ 63 → down ≤ℤ neg_ℤ (pos (2 ^ 96))
        → (down +ℤ (pos t *ℤ pos 524288 -ℤ o *ℤ pos 1048576)) <ℤ neg_ℤ (pos 10485760000000000000000000000)
    most t o down few h far = omega (arith, ints, few, h, far)

    past_limit : (q : ℤ) → q <ℤ neg_ℤ (pos 10000000) → 10000000 < unsigned_abs q
    past_limit q h = omega (arith, ints, h)

pub is_far : (axis : Axis) (value : ℤ) → IsAxis axis → IsFar (in_ticks axis.parts value)
    → coordinate_limit < unsigned_abs (nearest axis value)
is_far axis value is far = subst (λ (q : ℤ). coordinate_limit < unsigned_abs q) (sym (nearest_by_ticks axis value down refl))
    (go (either down far))
  where
    down : ℤ
    down = int_div_euclid (in_ticks axis.parts value) (pos one)

    either : (z : ℤ) → 2 ^ 96 ≤ unsigned_abs z → (pos (2 ^ 96) ≤ℤ z) ⊎ (z ≤ℤ neg_ℤ (pos (2 ^ 96)))
    either (pos n) h = inl (omega (arith, ints, h))
    either (negsuc n) h = inr (omega (arith, ints, h))

    go : (pos (2 ^ 96) ≤ℤ down) ⊎ (down ≤ℤ neg_ℤ (pos (2 ^ 96))) → coordinate_limit < unsigned_abs (nearest_tick axis down)
    go (inl h) = far_up axis down is h
    go (inr h) = far_down axis down is h

-- ---- of numbers read where they come from
short_ticks : (z : ℤ) → unsigned_abs z ≤ 2 ^ 124 → SFits w128 z
short_ticks z h = omega (arith, ints, h)

short_coordinate : (z : ℤ) → unsigned_abs z ≤ coordinate_limit → SFits w32 z
short_coordinate z h = omega (arith, ints, h)

read_ticks : (axis : Axis) (value : ℤ) (found : Ticks) → IsRoundedDown (in_ticks axis.parts value) found
    → to_z w128 (of_z w128 found.down) ≡ found.down
read_ticks axis value found is = to_z-of_z w128 found.down (short_ticks found.down is.within)

pub read_far : (axis : Axis) (value : ℤ) (found : Ticks) (q : ℤ) → IsRoundedDown (in_ticks axis.parts value) found → SFits w128 q
    → q ≡ nearest_tick axis (to_z w128 (of_z w128 found.down)) → coordinate_limit < unsigned_abs (to_z w128 (of_z w128 q))
    → coordinate_limit < unsigned_abs (nearest axis value)
read_far axis value found q is fits by far =
    subst (λ (z : ℤ). coordinate_limit < unsigned_abs z)
    (to_z-of_z w128 q fits ∙ (by ∙ (ap (nearest_tick axis) (read_ticks axis value found is)
    ∙ sym (nearest_by_ticks axis value found.down is.down)))) far

pub read_near : (axis : Axis) (value : ℤ) (found : Ticks) (q n past : ℤ) (on : Bool) (size : ℕ)
    → IsRoundedDown (in_ticks axis.parts value) found → SFits w128 q → SFits w128 past
    → q ≡ nearest_tick axis (to_z w128 (of_z w128 found.down)) → n ≡ to_z w128 (of_z w128 q)
    → unsigned_abs (to_z w128 (of_z w128 q)) ≤ coordinate_limit
    → past ≡ ticks_past axis (to_z w128 (of_z w128 found.down)) (to_z w32 (of_z w32 n))
    → on ≡ (int_eq (to_z w128 (of_z w128 past)) (pos 0) && not found.has_rest)
    → size ≡ whole_size (to_z w128 (of_z w128 past)) found.has_rest
    → IsRounded axis value (record { coordinate = to_z w32 (of_z w32 n); is_on = on; moved = size })
read_near axis value found q n past on size is fits fits_past by same within way on_is size_is =
    is_rounded axis value found (record { coordinate = to_z w32 (of_z w32 n); is_on = on; moved = size })
    (to_z w128 (of_z w128 past)) is
    (n_read ∙ (n_is ∙ (by ∙ ap (nearest_tick axis) (read_ticks axis value found is))))
    (subst (λ (z : ℤ). unsigned_abs z ≤ coordinate_limit) (sym n_read) n_within)
    (to_z-of_z w128 past fits_past ∙ (way ∙ ap (λ (z : ℤ). ticks_past axis z (to_z w32 (of_z w32 n)))
    (read_ticks axis value found is)))
    on_is size_is
  where
    n_is : n ≡ q
    n_is = same ∙ to_z-of_z w128 q fits

    n_within : unsigned_abs n ≤ coordinate_limit
    n_within = subst (λ (z : ℤ). unsigned_abs z ≤ coordinate_limit) (sym same) within

    n_read : to_z w32 (of_z w32 n) ≡ n
    n_read = to_z-of_z w32 n (short_coordinate n n_within)
