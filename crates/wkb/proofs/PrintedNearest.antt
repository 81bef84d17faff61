-- The double that is nearest to a coordinate is read as this coordinate again.
use Rattle.std.proofs.Common.{◌≡◌, ◌⊎◌, inl, inr, sym, ap, ap₂, ◌∙◌, subst, ℕ, zero, suc, ◌+◌, ◌-◌, ◌*◌, ◌/◌, ◌%◌, ◌^◌, ◌<◌, ◌≤◌, ◌==◌, Bool, true, false, ℤ, pos, negsuc, neg_ℤ, ◌+ℤ◌, ◌-ℤ◌, ◌*ℤ◌, ◌≤ℤ◌, ◌<ℤ◌, arith, lit<, refl, add-one, [], ◌∷◌}
use borrow.Author.Differences.{ints}
use Rattle.std.specs.Prelude.{cond, nat_le, nat_lt, unsigned_abs, if◌then◌else◌}
use Rattle.std.proofs.Math.Nat.{pow-le-pow_right}
use Rattle.std.proofs.lemmas.Nat.{pow-add, mul-le, div-add-mod'}
use Rattle.std.proofs.lemmas.Bool.{leb-true, leb-false, le-leb, cases_lt}
use Rattle.std.proofs.lemmas.Bool.Decides.{nat_tests}
use Rattle.geometry_model.specs.WellKnownText.{coordinate_limit}
use Rattle.basics.proofs.Numbers.{product_within, next_not_zero}
use Rattle.basics.proofs.Ring.{solve, var, lit, ◌⊖◌, ◌⊗◌}
use Rattle.wkb.specs.Doubles.{one, value, magnitude, significand, exponent, trailing, with_sign, is_finite}
use Rattle.wkb.specs.Grids.{Axis, IsAxis, past, nearest}
use Rattle.wkb.specs.NearestDoubles.{exponent_of, nearest_size, nearest_double, double_of_exponent, most_exponent, rounded_to_even, goes_up, double_at, place_of, IsNear}
use Rattle.wkb.proofs.NearestFacts.{no_other}
use Rattle.wkb.proofs.Scaling.{some_power, same, short_by, no_size}
use Rattle.wkb.proofs.Sizes.{some_one}

-- ---- the exponent that is found
least_exponent : (most parts size : ℕ) → 2 ^ 52 * (parts * 2 ^ 0) ≤ size
    → 2 ^ 52 * (parts * 2 ^ exponent_of most parts size) ≤ size
unfolding exponent_of
least_exponent zero parts size h = h
least_exponent (suc most) parts size h = go (nat_le (2 ^ 52 * (parts * 2 ^ suc most)) size) refl
    (least_exponent most parts size h)
  where
    go : (b : Bool) → nat_le (2 ^ 52 * (parts * 2 ^ suc most)) size ≡ b
        → 2 ^ 52 * (parts * 2 ^ exponent_of most parts size) ≤ size
        → 2 ^ 52 * (parts * 2 ^ (if b then suc most else exponent_of most parts size)) ≤ size
    go true is before = leb-true _ _ is
    go false is before = before

greatest_exponent : (most parts size : ℕ) → size < 2 ^ 52 * (parts * 2 ^ suc most)
    → size < 2 ^ 52 * (parts * 2 ^ suc (exponent_of most parts size))
unfolding exponent_of
greatest_exponent zero parts size h = h
greatest_exponent (suc most) parts size h = go (nat_le (2 ^ 52 * (parts * 2 ^ suc most)) size) refl
    (greatest_exponent most parts size)
  where
    go : (b : Bool) → nat_le (2 ^ 52 * (parts * 2 ^ suc most)) size ≡ b
        → (size < 2 ^ 52 * (parts * 2 ^ suc most) → size < 2 ^ 52 * (parts * 2 ^ suc (exponent_of most parts size)))
        → size < 2 ^ 52 * (parts * 2 ^ suc (if b then suc most else exponent_of most parts size))
    go true is before = h
    go false is before = before (leb-false _ _ is)

-- ---- the value of such a double
exponent_is : (k r : ℕ) → k < 2048 → r < 2 ^ 52 → exponent (k * 2 ^ 52 + r) ≡ k
exponent_is k r h l = omega (arith, h, l)

trailing_is : (k r : ℕ) → r < 2 ^ 52 → trailing (k * 2 ^ 52 + r) ≡ r
trailing_is k r l = omega (arith, l)

size_of : (k r : ℕ) → suc k < 2048 → r < 2 ^ 52 → magnitude (suc k * 2 ^ 52 + r) ≡ (2 ^ 52 + r) * 2 ^ k
unfolding magnitude significand
size_of k r h l = ap₂ (λ (e t : ℕ). cond (e == 0) t (2 ^ 52 + t) * 2 ^ (e - 1)) (exponent_is (suc k) r h l)
    (trailing_is (suc k) r l)
    ∙ (ap (λ (b : Bool). cond b r (2 ^ 52 + r) * 2 ^ (suc k - 1)) (next_not_zero k)
    ∙ ap (λ (e : ℕ). (2 ^ 52 + r) * 2 ^ e) (less k))
  where
    less : (k : ℕ) → suc k - 1 ≡ k
    less k = omega arith

size_is : (e q : ℕ) → e < 2000 → 2 ^ 52 ≤ q → q ≤ 2 ^ 53 → magnitude (e * 2 ^ 52 + q) ≡ q * 2 ^ e
size_is e q few least most = go (cases_lt q (2 ^ 53))
  where
    go : (q < 2 ^ 53) ⊎ (2 ^ 53 ≤ q) → magnitude (e * 2 ^ 52 + q) ≡ q * 2 ^ e
    go (inl h) = ap magnitude (bits e q least) ∙ (size_of e (q - 2 ^ 52) (omega (arith, few)) (omega (arith, h, least))
        ∙ ap (λ (n : ℕ). n * 2 ^ e) (back q least))
      where
        bits : (e q : ℕ) → 2 ^ 52 ≤ q → e * 2 ^ 52 + q ≡ suc e * 2 ^ 52 + (q - 2 ^ 52)
        bits e q h = omega (arith, h)

        back : (q : ℕ) → 2 ^ 52 ≤ q → 2 ^ 52 + (q - 2 ^ 52) ≡ q
        back q h = omega (arith, h)
    go (inr h) = ap magnitude (bits e q h most) ∙ (size_of (suc e) 0 (omega (arith, few)) (omega arith)
        ∙ (ap (λ (n : ℕ). (2 ^ 52 + 0) * n) (ap (λ (n : ℕ). 2 ^ n) (sym (add-one e)) ∙ pow-add 2 e 1) ∙ twice (2 ^ e) q h most))
      where
        bits : (e q : ℕ) → 2 ^ 53 ≤ q → q ≤ 2 ^ 53 → e * 2 ^ 52 + q ≡ suc (suc e) * 2 ^ 52 + 0
        bits e q h k = omega (arith, h, k)

        twice : (p q : ℕ) → 2 ^ 53 ≤ q → q ≤ 2 ^ 53 → (2 ^ 52 + 0) * (p * 2 ^ 1) ≡ q * p
        twice p q h k = subst (λ (n : ℕ). (2 ^ 52 + 0) * (p * 2 ^ 1) ≡ n * p) (exactly q h k) (by_two p)
          where
            exactly : (q : ℕ) → 2 ^ 53 ≤ q → q ≤ 2 ^ 53 → 2 ^ 53 ≡ q
            exactly q h k = omega (arith, h, k)

            by_two : (p : ℕ) → (2 ^ 52 + 0) * (p * 2 ^ 1) ≡ 2 ^ 53 * p
            by_two p = omega arith

-- ---- how far it is from the quotient
up_far : (q r u : ℕ) → goes_up q r u ≡ true → u ≤ r * 2
up_far q r u h = grind (arith, nat_tests)

down_far : (q r u : ℕ) → goes_up q r u ≡ false → r * 2 ≤ u
down_far q r u h = grind (arith, nat_tests)

-- a size of so many units is rounded by half a unit at most
record IsRoundedTo (size unit found : ℕ) : Type 0 where
  not_above : 2 * (found * unit) ≤ 2 * size + unit
  not_below : 2 * size ≤ 2 * (found * unit) + unit

is_rounded : (size unit : ℕ) → 0 < unit → IsRoundedTo size unit (rounded_to_even size unit)
is_rounded size unit some = go (goes_up (size / unit) (size % unit) unit) refl
  where
    whole : (q u r s : ℕ) → q * u + r ≡ s → r < u → u ≤ r * 2 → IsRoundedTo s u (q + 1)
    whole q u r s is less more = record { not_above = omega (arith, is, more); not_below = omega (arith, is, less) }

    below : (q u r s : ℕ) → q * u + r ≡ s → r * 2 ≤ u → IsRoundedTo s u (q + 0)
    below q u r s is more = record { not_above = omega (arith, is, more); not_below = omega (arith, is, more) }

    go : (b : Bool) → goes_up (size / unit) (size % unit) unit ≡ b
        → IsRoundedTo size unit (size / unit + cond (goes_up (size / unit) (size % unit) unit) 1 0)
    go true is = subst (λ (b : Bool). IsRoundedTo size unit (size / unit + cond b 1 0)) (sym is)
        (whole (size / unit) unit (size % unit) size (div-add-mod' size unit) (omega (arith, some))
        (up_far (size / unit) (size % unit) unit is))
    go false is = subst (λ (b : Bool). IsRoundedTo size unit (size / unit + cond b 1 0)) (sym is)
        (below (size / unit) unit (size % unit) size (div-add-mod' size unit) (down_far (size / unit) (size % unit) unit is))

-- ---- how far the double is from the coordinate
-- the size of a double is so near to a number of parts: by half a unit, of which the number has at least 2 to the power of 52
pub record IsClose (number parts bits : ℕ) : Type 0 where
  pub unit : ℕ
  pub not_above : 2 * (magnitude bits * parts) ≤ 2 * (number * one) + unit
  pub not_below : 2 * (number * one) ≤ 2 * (magnitude bits * parts) + unit
  pub small : 2 ^ 52 * unit ≤ number * one
  pub finite : bits < 2047 * 2 ^ 52

least_significand : (q u n : ℕ) → 0 < u → 2 ^ 52 * u ≤ n → 2 * n ≤ 2 * (q * u) + u → 2 ^ 52 ≤ q
least_significand q u n some least near = go (cases_lt q (2 ^ 52))
  where
    go : (q < 2 ^ 52) ⊎ (2 ^ 52 ≤ q) → 2 ^ 52 ≤ q
    go (inl h) = let product : suc q * u ≤ 2 ^ 52 * u = mul-le _ _ _ _ h (same u) in
        absurd (omega (arith, product, some, least, near))
    go (inr h) = h

most_significand : (q u n : ℕ) → n < 2 ^ 53 * u → 2 * (q * u) ≤ 2 * n + u → q ≤ 2 ^ 53
most_significand q u n most near = go (cases_lt (2 ^ 53) q)
  where
    go : (2 ^ 53 < q) ⊎ (q ≤ 2 ^ 53) → q ≤ 2 ^ 53
    go (inl h) = let product : suc (2 ^ 53) * u ≤ q * u = mul-le _ _ _ _ h (same u) in absurd (omega (arith, product, most, near))
    go (inr h) = h

close_by : (n parts e : ℕ) → 0 < parts → e < 2000 → 2 ^ 52 * (parts * 2 ^ e) ≤ n * one → n * one < 2 ^ 52 * (parts * 2 ^ suc e)
    → IsClose n parts (double_of_exponent e parts (n * one))
close_by n parts e some few least most =
    let q = rounded_to_even (n * one) (parts * 2 ^ e) in
    let u = parts * 2 ^ e in
    let there : 0 < u = positive parts (2 ^ e) some (some_power e) in
    let near : IsRoundedTo (n * one) u q = is_rounded (n * one) u there in
    let low : 2 ^ 52 ≤ q = least_significand q u (n * one) there least near.not_below in
    let high : q ≤ 2 ^ 53 = most_significand q u (n * one) (below n parts e most) near.not_above in
    let is : magnitude (e * 2 ^ 52 + q) * parts ≡ q * u = ap (λ (m : ℕ). m * parts) (size_is e q few low high)
    ∙ turned q (2 ^ e) parts in
    record {
      unit = u;
      not_above = subst (λ (m : ℕ). 2 * m ≤ 2 * (n * one) + u) (sym is) near.not_above;
      not_below = subst (λ (m : ℕ). 2 * (n * one) ≤ 2 * m + u) (sym is) near.not_below;
      small = least;
      finite = short e q few high;
    }
  where
    positive : (n p : ℕ) → 0 < n → 0 < p → 0 < n * p
    positive n p h k = let product : 1 * 1 ≤ n * p = mul-le 1 1 n p h k in omega (arith, product)

    turned : (q p n : ℕ) → q * p * n ≡ q * (n * p)
    turned q p n = omega arith

    short : (e q : ℕ) → e < 2000 → q ≤ 2 ^ 53 → e * 2 ^ 52 + q < 2047 * 2 ^ 52
    short e q h k = omega (arith, h, k)

    below : (n parts e : ℕ) → n * one < 2 ^ 52 * (parts * 2 ^ suc e) → n * one < 2 ^ 53 * (parts * 2 ^ e)
    below n parts e h = subst (λ (m : ℕ). n * one < m) (ap (λ (k : ℕ). 2 ^ 52 * (parts * k))
        (ap (λ (k : ℕ). 2 ^ k) (sym (add-one e)) ∙ pow-add 2 e 1)
        ∙ doubled parts (2 ^ e)) h
      where
        doubled : (n p : ℕ) → 2 ^ 52 * (n * (p * 2 ^ 1)) ≡ 2 ^ 53 * (n * p)
        doubled n p = omega arith

grown : (i j : ℕ) → i ≤ j → 2 ^ i ≤ 2 ^ j
grown i j h = pow-le-pow_right (lit< tt) h

pub is_close : (n parts : ℕ) → 0 < n → n < 2 ^ 98 → 0 < parts → parts < 2 ^ 50 → IsClose n parts (nearest_size n parts)
unfolding nearest_size one
is_close n parts some short there few =
    let e = exponent_of most_exponent parts (n * one) in
    let base : 2 ^ 52 * (parts * 2 ^ 0) ≤ n * one = begins n parts some few in
    let past_all : n * one < 2 ^ 52 * (parts * 2 ^ suc most_exponent) = ends n parts short there in
    let least : 2 ^ 52 * (parts * 2 ^ e) ≤ n * one = least_exponent most_exponent parts (n * one) base in
    close_by n parts e there (within n parts e short there least) least (greatest_exponent most_exponent parts (n * one) past_all)
  where
    begins : (n parts : ℕ) → 0 < n → parts < 2 ^ 50 → 2 ^ 52 * (parts * 2 ^ 0) ≤ n * 2 ^ 1074
    begins n parts h k =
        let power : 2 ^ 102 ≤ 2 ^ 1074 = grown 102 1074 (omega arith) in
        let product : 1 * 2 ^ 1074 ≤ n * 2 ^ 1074 = mul-le _ _ _ _ h (same (2 ^ 1074)) in
        from parts (2 ^ 1074) (n * 2 ^ 1074) k power product
      where
        from : (parts p m : ℕ) → parts < 2 ^ 50 → 2 ^ 102 ≤ p → 1 * p ≤ m → 2 ^ 52 * (parts * 2 ^ 0) ≤ m
        from parts p m h k l = omega (arith, h, k, l)

    far : (n : ℕ) → n < 2 ^ 98 → n * 2 ^ 1074 < 2 ^ 1172
    far n h = subst (λ (m : ℕ). n * 2 ^ 1074 < m) (sym (pow-add 2 98 1074)) (from n (2 ^ 98) (2 ^ 1074) h (some_power 1074))
      where
        from : (n p q : ℕ) → n < p → 0 < q → n * q < p * q
        from n p q h s = let product : suc n * q ≤ p * q = mul-le _ _ _ _ h (same q) in omega (arith, product, s)

    ends : (n parts : ℕ) → n < 2 ^ 98 → 0 < parts → n * 2 ^ 1074 < 2 ^ 52 * (parts * 2 ^ suc most_exponent)
    ends n parts h k =
        let power : 2 ^ 1172 ≤ 2 ^ suc most_exponent = grown 1172 (suc most_exponent) (omega arith) in
        let product : 1 * 2 ^ suc most_exponent ≤ parts * 2 ^ suc most_exponent = mul-le _ _ _ _ k
        (same (2 ^ suc most_exponent)) in
        from (n * 2 ^ 1074) (2 ^ 1172) (2 ^ suc most_exponent) (parts * 2 ^ suc most_exponent) (far n h) power product
      where
        from : (a b c d : ℕ) → a < b → b ≤ c → 1 * c ≤ d → a < 2 ^ 52 * d
        from a b c d h k l = omega (arith, h, k, l)

    within : (n parts e : ℕ) → n < 2 ^ 98 → 0 < parts → 2 ^ 52 * (parts * 2 ^ e) ≤ n * 2 ^ 1074 → e < 2000
    within n parts e h k l =
        let product : 1 * 2 ^ e ≤ parts * 2 ^ e = mul-le _ _ _ _ k (same (2 ^ e)) in
        let less : e < 1172 = short_by (2 ^ e) e 1172 (same (2 ^ e))
        (from (2 ^ e) (parts * 2 ^ e) (n * 2 ^ 1074) (2 ^ 1172) product l (far n h)) in
        omega (arith, less)
      where
        from : (p d m t : ℕ) → 1 * p ≤ d → 2 ^ 52 * d ≤ m → m < t → p < t
        from p d m t h k l = omega (arith, h, k, l)

-- ---- signs
none_before : (b : ℕ) → b < 2047 * 2 ^ 52 → b / 2 ^ 63 ≡ 0
none_before b h = omega (arith, h)

value_plus : (b : ℕ) → b < 2047 * 2 ^ 52 → value b ≡ pos (magnitude b)
value_plus b h = ap (λ (n : ℕ). with_sign (n == 1) (magnitude b)) (none_before b h)

exponent_minus : (b : ℕ) → exponent (2 ^ 63 + b) ≡ exponent b
exponent_minus b = omega arith

trailing_minus : (b : ℕ) → trailing (2 ^ 63 + b) ≡ trailing b
trailing_minus b = omega arith

size_minus : (b : ℕ) → magnitude (2 ^ 63 + b) ≡ magnitude b
unfolding magnitude significand
size_minus b = ap₂ (λ (e t : ℕ). cond (e == 0) t (2 ^ 52 + t) * 2 ^ (e - 1)) (exponent_minus b) (trailing_minus b)

value_minus : (b : ℕ) → b < 2047 * 2 ^ 52 → value (2 ^ 63 + b) ≡ pos 0 -ℤ pos (magnitude b)
value_minus b h = ap (λ (n : ℕ). with_sign (n == 1) (magnitude (2 ^ 63 + b))) (one_before b h)
    ∙ (turned (magnitude (2 ^ 63 + b)) ∙ ap (λ (n : ℕ). pos 0 -ℤ pos n) (size_minus b))
  where
    one_before : (b : ℕ) → b < 2047 * 2 ^ 52 → (2 ^ 63 + b) / 2 ^ 63 ≡ 1
    one_before b h = omega (arith, h)

    turned : (n : ℕ) → neg_ℤ (pos n) ≡ pos 0 -ℤ pos n
    turned n = omega (arith, ints)

finite_plus : (b : ℕ) → b < 2047 * 2 ^ 52 → is_finite b ≡ true
finite_plus b h = le-leb (suc (exponent b)) 2047 (less b h)
  where
    less : (b : ℕ) → b < 2047 * 2 ^ 52 → suc (exponent b) ≤ 2047
    less b h = omega (arith, h)

-- ---- the coordinate
close_size : (a b u s : ℕ) → 2 * a ≤ 2 * b + u → 2 * b ≤ 2 * a + u → u < s
    → (neg_ℤ (pos s) ≤ℤ (pos 2 *ℤ (pos a -ℤ pos b))) × ((pos 2 *ℤ (pos a -ℤ pos b)) <ℤ pos s)
close_size a b u s h k l = (omega (arith, ints, h, k, l), omega (arith, ints, h, k, l))

found_by : (axis : Axis) (value coordinate way : ℤ) → IsAxis axis → past axis value coordinate ≡ way
    → (neg_ℤ (pos (axis.step * one)) ≤ℤ (pos 2 *ℤ way)) × ((pos 2 *ℤ way) <ℤ pos (axis.step * one))
    → nearest axis value ≡ coordinate
found_by axis value coordinate way is past_is close = sym (no_other axis value coordinate is (record {
  not_before = subst (λ (z : ℤ). neg_ℤ (pos (axis.step * one)) ≤ℤ (pos 2 *ℤ z)) (sym past_is) close.0;
  not_behind = subst (λ (z : ℤ). (pos 2 *ℤ z) <ℤ pos (axis.step * one)) (sym past_is) close.1;
}))

-- a unit is less than a step where the place is near
small_unit : (n unit step u : ℕ) → 0 < step → 0 < u → n ≤ 100000010000000 * step → 2 ^ 52 * unit ≤ n * u → unit < step * u
small_unit n unit step u some there few small =
    let product : n * u ≤ 100000010000000 * step * u = mul-le _ _ _ _ few (same u) in
    let least : 1 * 1 ≤ step * u = mul-le 1 1 step u some there in
    omega (arith, product, least, small)

-- how great a place is, by the sizes of its two parts
sum_within : (z o w : ℤ) (a b : ℕ) → unsigned_abs z ≤ a → unsigned_abs o ≤ b → z +ℤ o ≡ w → unsigned_abs w ≤ a + b
sum_within z o w a b h k e = omega (arith, ints, h, k, e)

steps_within : (axis : Axis) (c : ℤ) (most : ℕ) → axis.step ≤ most → unsigned_abs c ≤ coordinate_limit
    → unsigned_abs (c *ℤ pos axis.step) ≤ 10000000 * most
steps_within axis c most few within = product_within c (pos axis.step) 10000000 most within few

place_short : (axis : Axis) (c w : ℤ) → IsAxis axis → unsigned_abs c ≤ coordinate_limit → place_of axis c ≡ w
    → unsigned_abs w < 2 ^ 98
place_short axis c w is within e =
    from (unsigned_abs w) (sum_within (c *ℤ pos axis.step) axis.origin w (10000000 * 1000000000000000) (2 ^ 63)
    (steps_within axis c 1000000000000000 is.short_step within) is.near_origin e)
  where
    from : (n : ℕ) → n ≤ 10000000 * 1000000000000000 + 2 ^ 63 → n < 2 ^ 98
    from n h = omega (arith, h)

place_near : (axis : Axis) (c w : ℤ) → IsNear axis → unsigned_abs c ≤ coordinate_limit → place_of axis c ≡ w
    → unsigned_abs w ≤ 100000010000000 * axis.step
place_near axis c w near within e =
    from axis.step (unsigned_abs w) (sum_within (c *ℤ pos axis.step) axis.origin w (10000000 * axis.step)
    (100000000000000 * axis.step)
    (steps_within axis c axis.step (same axis.step) within) near e)
  where
    from : (t n : ℕ) → n ≤ 10000000 * t + 100000000000000 * t → n ≤ 100000010000000 * t
    from t n h = omega (arith, h)

few_parts : (axis : Axis) → IsAxis axis → axis.parts < 2 ^ 50
few_parts axis is = from axis.parts is.few_parts
  where
    from : (n : ℕ) → n ≤ 1000000000000000 → n < 2 ^ 50
    from n h = omega (arith, h)

swapped : (axis : Axis) (c w : ℤ) → place_of axis c ≡ w → axis.origin +ℤ c *ℤ pos axis.step ≡ w
swapped axis c w e = from axis.origin (c *ℤ pos axis.step) w e
  where
    from : (o z w : ℤ) → z +ℤ o ≡ w → o +ℤ z ≡ w
    from o z w e = omega (arith, ints, e)

some_or_none : (n : ℕ) → (n ≡ 0) ⊎ (0 < n)
some_or_none n = go (cases_lt 0 n)
  where
    go : (0 < n) ⊎ (n ≤ 0) → (n ≡ 0) ⊎ (0 < n)
    go (inl h) = inr h
    go (inr h) = inl (omega (arith, h))

read_plus : (axis : Axis) (c : ℤ) (n : ℕ) → IsAxis axis → IsNear axis → unsigned_abs c ≤ coordinate_limit
    → place_of axis c ≡ pos n → 0 < n
    → nearest axis (value (nearest_size n axis.parts)) ≡ c
read_plus axis c n is near within e some =
    let close : IsClose n axis.parts (nearest_size n axis.parts) = is_close n axis.parts some
    (place_short axis c (pos n) is within e) is.some_parts (few_parts axis is) in
    let m = magnitude (nearest_size n axis.parts) in
    found_by axis (value (nearest_size n axis.parts)) c (pos (m * axis.parts) -ℤ pos (n * one)) is
    (ap₂ (λ (v o : ℤ). v *ℤ pos axis.parts -ℤ o *ℤ pos one) (value_plus (nearest_size n axis.parts) close.finite)
    (swapped axis c (pos n) e))
    (close_size (m * axis.parts) (n * one) close.unit (axis.step * one) close.not_above close.not_below
    (small_unit n close.unit axis.step one is.some_step some_one (place_near axis c (pos n) near within e) close.small))

read_minus : (axis : Axis) (c : ℤ) (k : ℕ) → IsAxis axis → IsNear axis → unsigned_abs c ≤ coordinate_limit
    → place_of axis c ≡ negsuc k
    → nearest axis (value (2 ^ 63 + nearest_size (k + 1) axis.parts)) ≡ c
read_minus axis c k is near within e =
    let size = nearest_size (k + 1) axis.parts in
    let close : IsClose (k + 1) axis.parts size = is_close (k + 1) axis.parts (above k)
    (shorter k (place_short axis c (negsuc k) is within e)) is.some_parts (few_parts axis is) in
    let m = magnitude size in
    found_by axis (value (2 ^ 63 + size)) c (pos ((k + 1) * one) -ℤ pos (m * axis.parts)) is
    (ap₂ (λ (v o : ℤ). v *ℤ pos axis.parts -ℤ o *ℤ pos one) (value_minus size close.finite)
    (swapped axis c (negsuc k) e ∙ negative k)
    ∙ turned (pos m) (pos axis.parts) (pos (k + 1)) (pos one))
    (close_size ((k + 1) * one) (m * axis.parts) close.unit (axis.step * one) close.not_below close.not_above
    (small_unit (k + 1) close.unit axis.step one is.some_step some_one
    (nearer axis.step k (place_near axis c (negsuc k) near within e)) close.small))
  where
    above : (k : ℕ) → 0 < k + 1
    above k = omega arith

    shorter : (k : ℕ) → unsigned_abs (negsuc k) < 2 ^ 98 → k + 1 < 2 ^ 98
    shorter k h = omega (arith, ints, h)

    nearer : (t k : ℕ) → unsigned_abs (negsuc k) ≤ 100000010000000 * t → k + 1 ≤ 100000010000000 * t
    nearer t k h = omega (arith, ints, h)

    negative : (k : ℕ) → negsuc k ≡ pos 0 -ℤ pos (k + 1)
    negative k = omega (arith, ints)

    turned : (a b c d : ℤ) → (pos 0 -ℤ a) *ℤ b -ℤ (pos 0 -ℤ c) *ℤ d ≡ c *ℤ d -ℤ a *ℤ b
    turned a b c d = solve (a ∷ b ∷ c ∷ d ∷ [])
        ((lit (pos 0) ⊖ var 0) ⊗ var 1 ⊖ (lit (pos 0) ⊖ var 2) ⊗ var 3)
        (var 2 ⊗ var 3 ⊖ var 0 ⊗ var 1) tt

value_of_none : value 0 ≡ pos 0
unfolding magnitude significand
value_of_none = refl

read_none : (axis : Axis) (c : ℤ) (n : ℕ) → IsAxis axis → place_of axis c ≡ pos n → n ≡ 0
    → nearest axis (value (nearest_size n axis.parts)) ≡ c
read_none axis c n is e none =
    found_by axis (value (nearest_size n axis.parts)) c (pos (0 * axis.parts) -ℤ pos (0 * one)) is
    (ap₂ (λ (v o : ℤ). v *ℤ pos axis.parts -ℤ o *ℤ pos one)
    (ap value (sym (no_size n axis.parts none is.some_parts)) ∙ value_of_none) (swapped axis c (pos n) e ∙ ap pos none))
    (close_size (0 * axis.parts) (0 * one) 0 (axis.step * one) (nothing axis.parts one) (nothing one axis.parts)
    (some_product axis.step one is.some_step some_one))
  where
    nothing : (a b : ℕ) → 2 * (0 * a) ≤ 2 * (0 * b) + 0
    nothing a b = omega arith

    some_product : (a b : ℕ) → 0 < a → 0 < b → 0 < a * b
    some_product a b h k = let product : 1 * 1 ≤ a * b = mul-le 1 1 a b h k in omega (arith, product)

pub read_again : (axis : Axis) (c : ℤ) → IsAxis axis → IsNear axis → unsigned_abs c ≤ coordinate_limit
    → nearest axis (value (double_at axis c)) ≡ c
read_again axis c is near within = go (place_of axis c) refl
  where
    plus : (n : ℕ) → place_of axis c ≡ pos n → (n ≡ 0) ⊎ (0 < n) → nearest axis (value (nearest_size n axis.parts)) ≡ c
    plus n e (inl none) = read_none axis c n is e none
    plus n e (inr some) = read_plus axis c n is near within e some

    go : (z : ℤ) → place_of axis c ≡ z → nearest axis (value (nearest_double z axis.parts)) ≡ c
    go (pos n) e = plus n e (some_or_none n)
    go (negsuc k) e = read_minus axis c k is near within e

pub is_number : (axis : Axis) (c : ℤ) → IsAxis axis → unsigned_abs c ≤ coordinate_limit → is_finite (double_at axis c) ≡ true
is_number axis c is within = go (place_of axis c) refl
  where
    plus : (n : ℕ) → place_of axis c ≡ pos n → (n ≡ 0) ⊎ (0 < n) → is_finite (nearest_size n axis.parts) ≡ true
    plus n e (inl none) = ap is_finite (sym (no_size n axis.parts none is.some_parts))
    plus n e (inr some) = finite_plus (nearest_size n axis.parts)
        (is_close n axis.parts some (place_short axis c (pos n) is within e) is.some_parts (few_parts axis is)).finite

    go : (z : ℤ) → place_of axis c ≡ z → is_finite (nearest_double z axis.parts) ≡ true
    go (pos n) e = plus n e (some_or_none n)
    go (negsuc k) e = ap (λ (n : ℕ). nat_lt n 2047) (exponent_minus (nearest_size (k + 1) axis.parts))
        ∙ finite_plus (nearest_size (k + 1) axis.parts) (is_close (k + 1) axis.parts (above k)
        (shorter k (place_short axis c (negsuc k) is within e)) is.some_parts (few_parts axis is)).finite
      where
        above : (k : ℕ) → 0 < k + 1
        above k = omega arith

        shorter : (k : ℕ) → unsigned_abs (negsuc k) < 2 ^ 98 → k + 1 < 2 ^ 98
        shorter k h = omega (arith, ints, h)
