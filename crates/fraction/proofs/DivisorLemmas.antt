-- Common divisors and the least form: bounds, and that a point in range stays in range.
use Rattle.std.proofs.Common.{◌≡◌, sym, ap, ◌∙◌, ℕ, ◌*◌, ◌/◌, ◌^◌, ◌<◌, ◌≤◌, ℤ, pos, negsuc, ◌*ℤ◌, ◌≤ℤ◌, ◌<ℤ◌, FitsSigned, arith}
use Rattle.std.specs.Prelude.{unsigned_abs, int_div, true}
use Rattle.std.proofs.lemmas.Int.{ints, unsigned_abs-mul}
use Rattle.std.proofs.lemmas.Bool.{and_parts}
use Rattle.std.proofs.lemmas.Nat.Gcd.{le_of_dvd, dvd_trans, same_from_IsGcd}
use Rattle.std.specs.Int.{IsGcd}
use Rattle.std.specs.Ordering.{int_eq}
use native.Mathlib.Nat.{pos_of_dvd_of_pos, div-le_self, le_of_mul-le-mul_left, mul-le-mul_left}
use mir.Syntax.{w128}
use Rattle.basics.proofs.Tests.{equal_from}
use Rattle.geometry_model.specs.Points.{Point, IsPoint, gcd, least_form}
use Rattle.geometry_model.specs.WellKnownText.{coordinate_limit}
use Rattle.geometry_model.proofs.LeastFormFacts.{IsGcd-gcd, least_is_same, least_is_point, least_is_least}
use Rattle.fraction.specs.Ranges.{IsInRange, IsKeptPoint, denominator_limit}

-- ---- divisors

pub gcd_from : (a b g : ℕ) → IsGcd a b g → g ≡ gcd a b
gcd_from a b g h = same_from_IsGcd a b g (gcd a b) h (IsGcd-gcd a b)

pub gcd_positive : (a b : ℕ) → 0 < b → 0 < gcd a b
gcd_positive a b h = pos_of_dvd_of_pos (IsGcd-gcd a b).1 h

pub gcd_at_most : (a b : ℕ) → 0 < b → gcd a b ≤ b
gcd_at_most a b h = le_of_dvd h (IsGcd-gcd a b).1

-- the divisor of three numbers, taken from the first with the last on
pub gcd_regrouped : (x y w : ℕ) → gcd y (gcd x w) ≡ gcd (gcd x y) w
gcd_regrouped x y w =
    let inner = IsGcd-gcd x w in
    let outer = IsGcd-gcd y (gcd x w) in
    gcd_from (gcd x y) w (gcd y (gcd x w)) (
      (IsGcd-gcd x y).2 (gcd y (gcd x w)) (dvd_trans _ outer.1 inner.0) outer.0,
      dvd_trans _ outer.1 inner.1,
      λ d h k. outer.2 d (dvd_trans _ h (IsGcd-gcd x y).1) (inner.2 d (dvd_trans _ h (IsGcd-gcd x y).0) k),
    )

-- a number of at least 1 without its sign
short_from : (w : ℤ) → pos 0 <ℤ w → FitsSigned w128 w → (0 < unsigned_abs w) × (unsigned_abs w < 2 ^ 127)
short_from (pos n) above fits = (omega (arith, ints), fits.sfits)
short_from (negsuc n) above fits = absurd (omega (arith, ints))

-- the greatest common divisor with a number of at least 1 is at least 1, and fits
pub divisor_fits : (a : ℕ) (w : ℤ) → pos 0 <ℤ w → FitsSigned w128 w → (0 < gcd a (unsigned_abs w)) × (gcd a (unsigned_abs w) < 2 ^ 127)
divisor_fits a w above fits =
    let short = short_from w above fits in
    (gcd_positive a (unsigned_abs w) short.0, at_most_then (gcd a (unsigned_abs w)) (unsigned_abs w) (2 ^ 127) (gcd_at_most a (unsigned_abs w) short.0) short.1)
  where
    at_most_then : (x y z : ℕ) → x ≤ y → y < z → x < z
    at_most_then x y z h k = omega arith

-- ---- the least form in range

pub quotient_at_most : (w : ℤ) (g : ℕ) → pos 0 <ℤ w → int_div w (pos g) ≤ℤ w
quotient_at_most (pos a) g h = let less : a / g ≤ a = div-le_self a g in omega (arith, ints)
quotient_at_most (negsuc a) g h = absurd (omega (arith, ints))

-- |x| / w = |y| / v, so a bound on one is a bound on the other
bound_kept : (x y w v : ℤ) (l : ℕ) → pos 0 <ℤ w → pos 0 <ℤ v → x *ℤ w ≡ y *ℤ v → unsigned_abs y ≤ l * unsigned_abs w → unsigned_abs x ≤ l * unsigned_abs v
bound_kept x y w v l hw hv e h = cancel (unsigned_abs x) (unsigned_abs w) (unsigned_abs y) (unsigned_abs v) (positive w hw) (sym (unsigned_abs-mul x w) ∙ ap unsigned_abs e ∙ unsigned_abs-mul y v) h
  where
    positive : (z : ℤ) → pos 0 <ℤ z → 0 < unsigned_abs z
    positive (pos n) k = omega (arith, ints)
    positive (negsuc n) k = omega (arith, ints)

    cancel : (a b c d : ℕ) → 0 < b → a * b ≡ c * d → c ≤ l * b → a ≤ l * d
    cancel a b c d k f bound =
        let scaled : d * c ≤ d * (l * b) = mul-le-mul_left d bound in
        let product : b * a ≤ b * (l * d) = omega (arith, f, scaled) in
        le_of_mul-le-mul_left product k

pub least_is_kept : (p : Point) → IsInRange p → IsKeptPoint (least_form p)
least_is_kept p h =
    let q = least_form p in
    let at_least_one : IsPoint q = least_is_point p h.positive in
    let tests : (int_eq (q.X *ℤ p.W) (p.X *ℤ q.W) ≡ true) × (int_eq (q.Y *ℤ p.W) (p.Y *ℤ q.W) ≡ true) = and_parts _ _ (least_is_same p) in
    record {
      range = record {
        positive = at_least_one;
        denominator = least_denominator q.W p.W (quotient_at_most p.W _ h.positive) h.denominator;
        x = bound_kept q.X p.X p.W q.W coordinate_limit h.positive at_least_one (equal_from (q.X *ℤ p.W) (p.X *ℤ q.W) tests.0) h.x;
        y = bound_kept q.Y p.Y p.W q.W coordinate_limit h.positive at_least_one (equal_from (q.Y *ℤ p.W) (p.Y *ℤ q.W) tests.1) h.y;
      };
      least = least_is_least p h.positive;
    }
  where
    least_denominator : (a b : ℤ) → a ≤ℤ b → b ≤ℤ pos denominator_limit → a ≤ℤ pos denominator_limit
    least_denominator a b k l = omega (arith, ints)

-- the quotients by the divisor of all three are the least form
pub quotients_are : (p : Point) (x y w d : ℤ) → d ≡ pos (gcd (gcd (unsigned_abs p.X) (unsigned_abs p.Y)) (unsigned_abs p.W)) → x ≡ int_div p.X d → y ≡ int_div p.Y d → w ≡ int_div p.W d
    → record { X = x; Y = y; W = w } ≡ least_form p
quotients_are p x y w d e ex ey ew = λ i. record { X = (ex ∙ ap (int_div p.X) e) i; Y = (ey ∙ ap (int_div p.Y) e) i; W = (ew ∙ ap (int_div p.W) e) i }
