-- The least form of a point: it is there, it is the same point, and there is one alone.
use Rattle.std.proofs.Common.{◌≡◌, ℕ, zero, suc, ◌+◌, ◌*◌, ◌/◌, ◌%◌, ◌<◌, true, refl, sym, ◌∙◌, ap, subst, arith, [], ◌∷◌, ℤ, pos, negsuc, ◌+ℤ◌, ◌-ℤ◌, ◌*ℤ◌, ◌<ℤ◌}
use Rattle.std.specs.Prelude.{unsigned_abs, int_div, int_rem, neg_ℤ}
use Rattle.std.proofs.lemmas.Int.{ints, quot-rem, unsigned_abs-mul}
use Rattle.std.proofs.lemmas.Bool.{and_from, and_parts}
use Rattle.std.proofs.lemmas.Nat.{mod-mul-add}
use Rattle.std.proofs.lemmas.Nat.Gcd.{IsGcd-from_zero, IsGcd-from_mod, dvd_antisymm, dvd_trans}
use Rattle.std.specs.Cmp.{signed_Decides}
use Rattle.std.specs.Ordering.{int_eq}
use Rattle.std.specs.Int.{IsGcd}
use native.Mathlib.Nat.{mod-eq-zero_of_dvd, mul-dvd-mul_right, dvd_of_mul-dvd-mul_right, eq-one_of_dvd-one, pos_of_dvd_of_pos, dvd-mul_right, dvd-mul_left, mod-lt, div-add-mod', mul-lt-mul_of_pos_right}
use Prim.Native.Nat.{◌∣◌}
use Rattle.basics.proofs.Ring.{solve, var, ◌⊗◌, ◌⊖◌}
use Rattle.basics.proofs.Signs.{cancel_zero, cancel_positive}
use Rattle.basics.proofs.Tests.{equal_yes}
use Rattle.geometry_model.specs.Points.{Point, IsPoint, same_point, IsLeast, last_divisor, gcd, least_form}

-- ---- the greatest common divisor

-- enough turns end with the greatest common divisor
pub IsGcd-last_divisor : (turns a b : ℕ) → b < turns → IsGcd a b (last_divisor turns a b)
IsGcd-last_divisor zero a b h = absurd (omega (arith, h))
IsGcd-last_divisor (suc turns) a zero h = IsGcd-from_zero a zero refl
IsGcd-last_divisor (suc turns) a (suc b) h =
    let less : a % suc b < suc b = mod-lt a {m = suc b} (omega arith) in
    IsGcd-from_mod a (suc b) _ (IsGcd-last_divisor turns (suc b) (a % suc b) (omega arith))

-- one turn more than the second number is enough
pub IsGcd-gcd : (a b : ℕ) → IsGcd a b (gcd a b)
IsGcd-gcd a b = IsGcd-last_divisor (b + 1) a b (omega arith)

-- a remainder, both numbers times n
mod-scaled : (a b n : ℕ) → 0 < b → 0 < n → (a * n) % (b * n) ≡ (a % b) * n
mod-scaled a b n hb hn = ap (λ (z : ℕ). z % (b * n)) (parts (a / b) (a % b) (div-add-mod' a b)) ∙ mod-mul-add (a / b) (b * n) ((a % b) * n) (scaled_less (a % b) (mod-lt a {m = b} hb))
  where
    parts : (k r : ℕ) → k * b + r ≡ a → a * n ≡ k * (b * n) + r * n
    parts k r e = let times_n : (k * b + r) * n ≡ a * n = ap (λ (z : ℕ). z * n) e in omega arith

    scaled_less : (r : ℕ) → r < b → r * n < b * n
    scaled_less r h = mul-lt-mul_of_pos_right h hn

-- the greatest common divisor, both numbers times n
IsGcd-scaled : (turns a b n : ℕ) → 0 < n → b < turns → IsGcd (a * n) (b * n) (last_divisor turns a b * n)
IsGcd-scaled zero a b n hn h = absurd (omega (arith, h))
IsGcd-scaled (suc turns) a zero n hn h = IsGcd-from_zero (a * n) (zero * n) (omega arith)
IsGcd-scaled (suc turns) a (suc b) n hn h =
    let less : a % suc b < suc b = mod-lt a {m = suc b} (omega arith) in
    IsGcd-from_mod (a * n) (suc b * n) _ (subst (λ (z : ℕ). IsGcd (suc b * n) z (last_divisor turns (suc b) (a % suc b) * n)) (sym (mod-scaled a (suc b) n (omega arith) hn))
    (IsGcd-scaled turns (suc b) (a % suc b) n hn (omega arith)))

-- the greatest common divisor of two numbers times n is theirs times n
pub IsGcd-gcd_scaled : (a b n : ℕ) → 0 < n → IsGcd (a * n) (b * n) (gcd a b * n)
IsGcd-gcd_scaled a b n hn = IsGcd-scaled (b + 1) a b n hn (omega arith)

-- ---- exact quotients

-- a divisor leaves no rest
no_rest : (x : ℤ) (g : ℕ) → g ∣ unsigned_abs x → int_rem x (pos g) ≡ pos 0
no_rest (pos a) g h = ap pos (mod-eq-zero_of_dvd g h)
no_rest (negsuc a) g h = ap (λ (n : ℕ). neg_ℤ (pos n)) (mod-eq-zero_of_dvd g h)

-- and its quotient is exact
exact : (x : ℤ) (g : ℕ) → g ∣ unsigned_abs x → int_div x (pos g) *ℤ pos g ≡ x
exact x g h = without (int_div x (pos g) *ℤ pos g) (int_rem x (pos g)) (quot-rem x (pos g)) (no_rest x g h)
  where
    without : (y z : ℤ) → y +ℤ z ≡ x → z ≡ pos 0 → y ≡ x
    without y z e f = omega (arith, ints)

-- what divides the quotient, times g, divides the number
scaled_divisor : (x : ℤ) (g d : ℕ) → g ∣ unsigned_abs x → d ∣ unsigned_abs (int_div x (pos g)) → (d * g) ∣ unsigned_abs x
scaled_divisor x g d h k = subst (λ (n : ℕ). (d * g) ∣ n) (sym (unsigned_abs-mul (int_div x (pos g)) (pos g)) ∙ ap unsigned_abs (exact x g h)) (mul-dvd-mul_right _ k g)

-- ---- the least form

-- what divides all three numbers of a triple
abbrev divisor : Point → ℕ
divisor p = gcd (gcd (unsigned_abs p.X) (unsigned_abs p.Y)) (unsigned_abs p.W)

pub record Divides (p : Point) : Type 0 where
  pub x : divisor p ∣ unsigned_abs p.X
  pub y : divisor p ∣ unsigned_abs p.Y
  pub w : divisor p ∣ unsigned_abs p.W

-- the divisor of a triple divides each of its numbers
divides : (p : Point) → Divides p
divides p =
    let outer = IsGcd-gcd (gcd (unsigned_abs p.X) (unsigned_abs p.Y)) (unsigned_abs p.W) in
    let inner = IsGcd-gcd (unsigned_abs p.X) (unsigned_abs p.Y) in
    record { x = dvd_trans _ outer.0 inner.0; y = dvd_trans _ outer.0 inner.1; w = outer.1 }

-- a number that divides all three divides the divisor
greatest : (p : Point) (d : ℕ) → d ∣ unsigned_abs p.X → d ∣ unsigned_abs p.Y → d ∣ unsigned_abs p.W → d ∣ divisor p
greatest p d hx hy hw = (IsGcd-gcd (gcd (unsigned_abs p.X) (unsigned_abs p.Y)) (unsigned_abs p.W)).2 d ((IsGcd-gcd (unsigned_abs p.X) (unsigned_abs p.Y)).2 d hx hy) hw

positive_abs : (x : ℤ) → pos 0 <ℤ x → 0 < unsigned_abs x
positive_abs (pos a) h = omega (arith, ints)
positive_abs (negsuc a) h = omega (arith, ints)

-- the divisor of a point is above 0, since it divides W
divisor_positive : (p : Point) → IsPoint p → 0 < divisor p
divisor_positive p h = pos_of_dvd_of_pos (divides p).w (positive_abs p.W h)

-- the numbers of the least form, times the divisor, are those of the point
pub record Multiple (p q : Point) (g : ℤ) : Type 0 where
  pub x : q.X *ℤ g ≡ p.X
  pub y : q.Y *ℤ g ≡ p.Y
  pub w : q.W *ℤ g ≡ p.W

-- the divisor divides each number, so the quotients times the divisor are the numbers again
multiple : (p : Point) → Multiple p (least_form p) (pos (divisor p))
multiple p = record {
  x = exact p.X (divisor p) (divides p).x;
  y = exact p.Y (divisor p) (divides p).y;
  w = exact p.W (divisor p) (divides p).w;
}

-- a point and its multiple are one point
cross : (x w k a b : ℤ) → x *ℤ k ≡ a → w *ℤ k ≡ b → x *ℤ b ≡ a *ℤ w
cross x w k a b e f = ap (λ (z : ℤ). x *ℤ z) (sym f) ∙ solve (x ∷ w ∷ k ∷ []) (var 0 ⊗ (var 1 ⊗ var 2)) (var 0 ⊗ var 2 ⊗ var 1) tt ∙ ap (λ (z : ℤ). z *ℤ w) e

-- the least form is the same point, since a multiple of a triple is
pub least_is_same : (p : Point) → same_point (least_form p) p ≡ true
least_is_same p =
    let m = multiple p in
    let q = least_form p in
    and_from _ _ (equal_yes _ _ (cross q.X q.W (pos (divisor p)) p.X p.W m.x m.w)) (equal_yes _ _ (cross q.Y q.W (pos (divisor p)) p.Y p.W m.y m.w))

-- its W is above 0, since it is so times the divisor
pub least_is_point : (p : Point) → IsPoint p → IsPoint (least_form p)
least_is_point p h = positive (least_form p).W (divisor p) p.W (multiple p).w h
  where
    positive : (w : ℤ) (g : ℕ) (b : ℤ) → w *ℤ pos g ≡ b → pos 0 <ℤ b → pos 0 <ℤ w
    positive w g b e k = cancel_positive (pos g) w (omega (arith, ints)) (turned w (pos g) b e k)
      where
        turned : (x y z : ℤ) → x *ℤ y ≡ z → pos 0 <ℤ z → pos 0 <ℤ (y *ℤ x)
        turned x y z f l = omega (arith, ints)

-- what divides all three numbers of the least form, times the divisor, divides those of the point;
-- the divisor is the greatest that does, so it is 1
pub least_is_least : (p : Point) → IsPoint p → IsLeast (least_form p)
least_is_least p h = λ d hx hy hw. eq-one_of_dvd-one (dvd_of_mul-dvd-mul_right d {n = 1} (divisor_positive p h)
    (subst (λ (n : ℕ). (d * divisor p) ∣ n) (sym (one_times (divisor p))) (greatest p (d * divisor p)
    (scaled_divisor p.X (divisor p) d (divides p).x hx) (scaled_divisor p.Y (divisor p) d (divides p).y hy) (scaled_divisor p.W (divisor p) d (divides p).w hw))))
  where
    one_times : (n : ℕ) → 1 * n ≡ n
    one_times n = omega arith

-- ---- one triple alone

-- W divides the W of each triple of the same point, where it is in least form
w_divides : (p q : Point) → IsPoint q → IsLeast p → p.X *ℤ q.W ≡ q.X *ℤ p.W → p.Y *ℤ q.W ≡ q.Y *ℤ p.W → unsigned_abs p.W ∣ unsigned_abs q.W
w_divides p q h least ex ey =
    let v = unsigned_abs q.W in
    let w = unsigned_abs p.W in
    let xs = gcd (unsigned_abs p.X) (unsigned_abs p.Y) in
    let is_one : gcd xs w ≡ 1 = least (divisor p) (divides p).x (divides p).y (divides p).w in
    subst (λ (n : ℕ). w ∣ n) (ap (λ (n : ℕ). n * v) is_one ∙ one_times v)
    ((IsGcd-gcd_scaled xs w v (positive_abs q.W h)).2 w
    ((IsGcd-gcd_scaled (unsigned_abs p.X) (unsigned_abs p.Y) v (positive_abs q.W h)).2 w (divides_product p.X q.W q.X p.W ex) (divides_product p.Y q.W q.Y p.W ey))
    (dvd-mul_right w v))
  where
    one_times : (n : ℕ) → 1 * n ≡ n
    one_times n = omega arith

    divides_product : (a b c d : ℤ) → a *ℤ b ≡ c *ℤ d → unsigned_abs d ∣ (unsigned_abs a * unsigned_abs b)
    divides_product a b c d e = subst (λ (n : ℕ). unsigned_abs d ∣ n) (sym (unsigned_abs-mul c d) ∙ ap unsigned_abs (sym e) ∙ unsigned_abs-mul a b) (dvd-mul_left (unsigned_abs d) (unsigned_abs c))

same_positive : (a b : ℤ) → pos 0 <ℤ a → pos 0 <ℤ b → unsigned_abs a ≡ unsigned_abs b → a ≡ b
same_positive (pos m) (pos n) h k e = ap pos e
same_positive (pos m) (negsuc n) h k e = omega (arith, ints)
same_positive (negsuc m) b h k e = omega (arith, ints)

-- equal products with one factor above 0
cancelled : (a b c d : ℤ) → pos 0 <ℤ c → c ≡ d → a *ℤ d ≡ b *ℤ c → a ≡ b
cancelled a b c d h e f = apart (cancel_zero c (a -ℤ b) h (solve (a ∷ b ∷ c ∷ []) (var 2 ⊗ (var 0 ⊖ var 1)) (var 0 ⊗ var 2 ⊖ var 1 ⊗ var 2) tt ∙ difference (a *ℤ c) (b *ℤ c) (ap (λ (z : ℤ). a *ℤ z) e ∙ f)))
  where
    difference : (x y : ℤ) → x ≡ y → x -ℤ y ≡ pos 0
    difference x y g = omega (arith, ints)

    apart : a -ℤ b ≡ pos 0 → a ≡ b
    apart g = omega (arith, ints)

-- two least forms of one point are the same: each W divides the other, so they are equal, and then X and Y are
pub least_is_unique : (p q : Point) → IsPoint p → IsPoint q → IsLeast p → IsLeast q → same_point p q ≡ true → p ≡ q
least_is_unique p q hp hq lp lq same = λ i. record { X = x i; Y = y i; W = w i }
  where
    tests : (int_eq (p.X *ℤ q.W) (q.X *ℤ p.W) ≡ true) × (int_eq (p.Y *ℤ q.W) (q.Y *ℤ p.W) ≡ true)
    tests = and_parts _ _ same

    ex : p.X *ℤ q.W ≡ q.X *ℤ p.W
    ex = (signed_Decides (p.X *ℤ q.W) (q.X *ℤ p.W)).0 tests.0

    ey : p.Y *ℤ q.W ≡ q.Y *ℤ p.W
    ey = (signed_Decides (p.Y *ℤ q.W) (q.Y *ℤ p.W)).0 tests.1

    w : p.W ≡ q.W
    w = same_positive p.W q.W hp hq (dvd_antisymm (w_divides p q hq lp ex ey) (w_divides q p hp lq (sym ex) (sym ey)))

    x : p.X ≡ q.X
    x = cancelled p.X q.X p.W q.W hp w ex

    y : p.Y ≡ q.Y
    y = cancelled p.Y q.Y p.W q.W hp w ey
