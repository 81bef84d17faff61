-- Ways with a sign that are rounded down, and what is left.
use Rattle.std.proofs.Common.{◌≡◌, refl, sym, ap, ap₂, ◌∙◌, subst, ℕ, zero, suc, ◌+◌, ◌-◌, ◌*◌, ◌/◌, ◌%◌, ◌^◌, ◌<◌, ◌≤◌, ◌==◌, Bool, true, false, not, cond, ℤ, pos, negsuc, neg_ℤ, ◌-ℤ◌, ◌*ℤ◌, [], ◌∷◌, arith}
use borrow.Author.Differences.{ints}
use Rattle.std.specs.Prelude.{unsigned_abs}
use Rattle.std.specs.Int.{int_div_euclid}
use Rattle.std.specs.Ordering.{int_eq}
use Rattle.std.proofs.Math.Nat.{div-eq_of_lt-le}
use Rattle.std.proofs.lemmas.Nat.{div-add-mod', mod_below}
use Rattle.basics.proofs.Ring.{solve, var, lit, ◌⊖◌, ◌⊗◌}
use Rattle.basics.proofs.Tests.{equal_yes, equal_no}
use Rattle.basics.proofs.Numbers.{next_not_zero}
use Rattle.wkb.specs.Doubles.{one, value, magnitude, is_minus, with_sign}
use Rattle.wkb.specs.Grids.{ticks}
use Rattle.wkb.specs.Ticks.{size, rounded_down, in_ticks, IsCounted, IsFar, IsRoundedDown}
use Rattle.wkb.specs.declared.doubles.Parts.{Parts}
use Rattle.wkb.proofs.Sizes.{some_one}

-- a quotient without a rest, and one with a rest
quotient_is : (n d q r : ℕ) → r < d → n ≡ q * d + r → n / d ≡ q
quotient_is n d q r h e = div-eq_of_lt-le d (omega (arith, h, e)) (more n d q r h e)
  where
    more : (n d q r : ℕ) → r < d → n ≡ q * d + r → n < (q + 1) * d
    more n d q r h e = omega (arith, h, e)

-- ---- below 0
-- the number after one: its quotient and its rest, where there is a rest and where there is none
after_with : (m d r : ℕ) → 0 < d → suc m % d ≡ suc r → suc m / d ≡ m / d
after_with m d r h rest =
    let e : suc m / d * d + suc m % d ≡ suc m = div-add-mod' (suc m) d in
    let f : suc m % d < d = mod_below (suc m) d h in
    sym (quotient_is m d (suc m / d) r (omega (arith, f, rest)) (omega (arith, e, rest)))

after_without : (m d : ℕ) → 0 < d → suc m % d ≡ 0 → suc m / d ≡ suc (m / d)
after_without m d h rest =
    let e : suc m / d * d + suc m % d ≡ suc m = div-add-mod' (suc m) d in
    from (suc m / d) (omega (arith, e, rest))
  where
    from : (q : ℕ) → q * d ≡ suc m → q ≡ suc (m / d)
    from zero e = absurd (omega (arith, e))
    from (suc q) e = ap suc (sym (quotient_is m d q (d - 1) (omega (arith, h)) (omega (arith, e, h))))

-- a size rounded down once its sign is known
down_is : (minus : Bool) (n d : ℕ) → 0 < d
    → rounded_down minus (n / d) (not (n % d == 0)) ≡ int_div_euclid (with_sign minus n) (pos d)
down_is false n d h = refl
down_is true zero d h = nothing (zero / d) (zero % d) (omega arith) (omega arith)
  where
    nothing : (q r : ℕ) → q ≡ 0 → r ≡ 0 → rounded_down true q (not (r == 0)) ≡ int_div_euclid (pos zero) (pos d)
    nothing q r e f = rw (e, f) (ap pos (omega arith))
down_is true (suc m) d h = go (suc m % d) refl
  where
    minus_one_more : (q : ℕ) → neg_ℤ (pos (q + 1)) ≡ negsuc q
    minus_one_more q = omega (arith, ints)

    minus_none_more : (q : ℕ) → neg_ℤ (pos (suc q + 0)) ≡ negsuc q
    minus_none_more q = omega (arith, ints)

    go : (r : ℕ) → suc m % d ≡ r → neg_ℤ (pos (suc m / d + cond (not (suc m % d == 0)) 1 0)) ≡ negsuc (m / d)
    go zero e = ap₂ (λ (q r : ℕ). neg_ℤ (pos (q + cond (not (r == 0)) 1 0))) (after_without m d h e) e ∙ minus_none_more (m / d)
    go (suc r) e = ap₂ (λ (q : ℕ) (b : Bool). neg_ℤ (pos (q + cond (not b) 1 0))) (after_with m d r h e)
        (ap (λ (n : ℕ). n == 0) e ∙ next_not_zero r) ∙ minus_one_more (m / d)

-- whether nothing is left shows on the multiple of the quotient
rest_is : (minus : Bool) (n d : ℕ) → 0 < d
    → (n % d == 0) ≡ int_eq (int_div_euclid (with_sign minus n) (pos d) *ℤ pos d) (with_sign minus n)
rest_is false n d h = go (n % d) refl
  where
    go : (r : ℕ) → n % d ≡ r → (n % d == 0) ≡ int_eq (pos (n / d) *ℤ pos d) (pos n)
    go zero e = ap (λ (m : ℕ). m == 0) e ∙ sym
        (equal_yes (pos (n / d) *ℤ pos d) (pos n) (ap pos (omega (arith, div-add-mod' n d, e))))
    go (suc r) e = (ap (λ (m : ℕ). m == 0) e ∙ next_not_zero r)
        ∙ sym (equal_no (pos (n / d) *ℤ pos d) (pos n) (λ same. differ same))
      where
        differ : pos (n / d) *ℤ pos d ≡ pos n → ⊥
        differ same = omega (arith, ints, same, div-add-mod' n d, e)
rest_is true zero d h = ap (λ (m : ℕ). m == 0) (nothing d)
    ∙ sym (equal_yes (pos (zero / d) *ℤ pos d) (pos zero) (ap pos (no_product (zero / d) (none d))))
  where
    nothing : (d : ℕ) → zero % d ≡ 0
    nothing d = omega arith

    none : (d : ℕ) → zero / d ≡ 0
    none d = omega arith

    no_product : (q : ℕ) → q ≡ 0 → q * d ≡ 0
    no_product zero e = omega arith
    no_product (suc q) e = absurd (omega (arith, e))
rest_is true (suc m) d h = go (suc m % d) refl
  where
    go : (r : ℕ) → suc m % d ≡ r → (suc m % d == 0) ≡ int_eq (negsuc (m / d) *ℤ pos d) (negsuc m)
    go zero e = ap (λ (n : ℕ). n == 0) e ∙ sym
        (equal_yes (negsuc (m / d) *ℤ pos d) (negsuc m)
        (same (suc m / d) (m / d) (after_without m d h e) (omega (arith, div-add-mod' (suc m) d, e))))
      where
        same : (p q : ℕ) → p ≡ suc q → p * d ≡ suc m → negsuc q *ℤ pos d ≡ negsuc m
        same p q is e = as_product q (subst (λ (n : ℕ). n * d ≡ suc m) is e)
          where
            as_product : (q : ℕ) → suc q * d ≡ suc m → negsuc q *ℤ pos d ≡ negsuc m
            as_product q e = ap (λ (n : ℕ). neg_ℤ (pos n)) e
    go (suc r) e = (ap (λ (n : ℕ). n == 0) e ∙ next_not_zero r)
        ∙ sym (equal_no (negsuc (m / d) *ℤ pos d) (negsuc m)
        (λ same. differ (m / d) (suc m / d) (after_with m d r h e) (mod_below (suc m) d h) (div-add-mod' (suc m) d) same))
      where
        differ : (q p : ℕ) → p ≡ q → suc m % d < d → p * d + suc m % d ≡ suc m → negsuc q *ℤ pos d ≡ negsuc m → ⊥
        differ q p is below f same = absurd (apart (suc q * d) (q * d) (over q) (as_size (suc q * d) same)
            (subst (λ (n : ℕ). n * d + suc m % d ≡ suc m) is f))
          where
            as_size : (n : ℕ) → neg_ℤ (pos n) ≡ negsuc m → n ≡ suc m
            as_size n e = omega (arith, ints, e)

            over : (q : ℕ) → suc q * d ≡ q * d + d
            over q = omega arith

            apart : (n k : ℕ) → n ≡ k + d → n ≡ suc m → k + suc m % d ≡ suc m → ⊥
            apart n k e f g = omega (arith, below, e, f, g)

-- ---- what is found of a double
-- a product has the sign of its one factor that has one
signed_product : (minus : Bool) (m p t : ℕ) → with_sign minus (m * p * t) ≡ with_sign minus m *ℤ pos p *ℤ pos t
signed_product false m p t = refl
signed_product true m p t = turned (m * p * t)
    ∙ (solve (pos m ∷ pos p ∷ pos t ∷ []) (lit (pos 0) ⊖ var 0 ⊗ var 1 ⊗ var 2) ((lit (pos 0) ⊖ var 0) ⊗ var 1 ⊗ var 2) tt
    ∙ ap (λ (z : ℤ). z *ℤ pos p *ℤ pos t) (sym (turned m)))
  where
    turned : (n : ℕ) → neg_ℤ (pos n) ≡ pos 0 -ℤ pos n
    turned n = omega (arith, ints)

in_ticks_is : (bits parts : ℕ) → with_sign (is_minus bits) (size bits parts) ≡ in_ticks parts (value bits)
in_ticks_is bits parts = signed_product (is_minus bits) (magnitude bits) parts ticks

within_down : (minus : Bool) (whole : ℕ) (rest : Bool) → whole < 2 ^ 124 → unsigned_abs (rounded_down minus whole rest) ≤ 2 ^ 124
within_down false whole rest h = omega (arith, h)
within_down true whole true h = omega (arith, ints, h)
within_down true whole false h = omega (arith, ints, h)

pub signed_counted : (bits parts : ℕ) (found : Parts) (down : ℤ) → IsCounted (size bits parts) found
    → down ≡ rounded_down (is_minus bits) found.whole found.has_rest
    → IsRoundedDown (in_ticks parts (value bits)) (record { down = down; has_rest = found.has_rest })
signed_counted bits parts found down counted is = record {
  down = down_so;
  rest = counted.rest ∙ ap not (rest_is (is_minus bits) (size bits parts) one some_one
      ∙ ap₂ int_eq (ap (λ (q : ℤ). q *ℤ pos one) (sym from_size)) (in_ticks_is bits parts));
  within = subst (λ (z : ℤ). unsigned_abs z ≤ 2 ^ 124) (sym is)
      (within_down (is_minus bits) found.whole found.has_rest counted.within);
}
  where
    from_size : down ≡ int_div_euclid (with_sign (is_minus bits) (size bits parts)) (pos one)
    from_size = is ∙ (ap₂ (λ (w : ℕ) (b : Bool). rounded_down (is_minus bits) w b) counted.whole counted.rest
        ∙ down_is (is_minus bits) (size bits parts) one some_one)

    down_so : down ≡ int_div_euclid (in_ticks parts (value bits)) (pos one)
    down_so = from_size ∙ ap (λ (z : ℤ). int_div_euclid z (pos one)) (in_ticks_is bits parts)

far_signed : (minus : Bool) (n d : ℕ) → 0 < d → 2 ^ 96 ≤ n / d
    → 2 ^ 96 ≤ unsigned_abs (int_div_euclid (with_sign minus n) (pos d))
far_signed minus n d h far = subst (λ (z : ℤ). 2 ^ 96 ≤ unsigned_abs z) (down_is minus n d h) (go minus (not (n % d == 0)))
  where
    go : (minus rest : Bool) → 2 ^ 96 ≤ unsigned_abs (rounded_down minus (n / d) rest)
    go false rest = far
    go true true = omega (arith, ints, far)
    go true false = omega (arith, ints, far)

pub signed_far : (bits parts : ℕ) → 2 ^ 96 ≤ size bits parts / one → IsFar (in_ticks parts (value bits))
signed_far bits parts far = subst IsFar (in_ticks_is bits parts) (far_signed (is_minus bits) (size bits parts) one some_one far)
