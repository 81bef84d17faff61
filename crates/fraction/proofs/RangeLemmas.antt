-- The numbers of points are in range.
use Rattle.std.proofs.Common.{◌≡◌, sym, subst, ap, ap₂, ◌∙◌, to_z, of_z, ℕ, ◌*◌, ◌≤◌, ℤ, pos, ◌+ℤ◌, ◌*ℤ◌, ◌≤ℤ◌, ◌<ℤ◌, FitsSigned, w64, arith}
use Rattle.std.specs.Prelude.{unsigned_abs}
use Rattle.std.proofs.lemmas.Int.{ints, to_z-of_z, unsigned_abs-mul}
use Rattle.basics.proofs.Orders.{sum_positive}
use native.Mathlib.Nat.{eq-one_of_dvd-one, mul-le-mul}
use mir.Syntax.{Width, w128}
use Rattle.geometry_model.specs.Points.{Position, Point, point_at, mediant}
use Rattle.geometry_model.specs.WellKnownText.{coordinate_limit}
use Rattle.fraction.specs.Fractions.{Fraction}
use Rattle.fraction.specs.Ranges.{IsOnGrid, IsInRange, IsFractionInRange, IsKeptPoint, meeting_limit, denominator_limit}

-- the point at a position is in least form and in range
grid_is_kept : (a : Position) → IsOnGrid a → IsKeptPoint (point_at a)
grid_is_kept a h = record {
  range = record {
    positive = omega (arith, ints);
    denominator = omega (arith, ints);
    x = times_one h.x;
    y = times_one h.y;
  };
  least = λ d _ _ h. eq-one_of_dvd-one h;
}
  where
    times_one : {m n : ℕ} → m ≤ n → m ≤ n * 1
    times_one h = omega arith

pub grid_is_kept_from : (a : Position) (x y : ℤ) → x ≡ a.x → y ≡ a.y → IsOnGrid a → IsKeptPoint (record { X = x; Y = y; W = pos 1 })
grid_is_kept_from a x y e f h = subst (λ (p : Point). IsKeptPoint p) (λ i. record { X = sym e i; Y = sym f i; W = pos 1 }) (grid_is_kept a h)

-- the sums of two points' numbers are in range, where both denominators are small
pub sum_in_range : (p q : Point) → IsInRange p → IsInRange q → p.W ≤ℤ pos meeting_limit → q.W ≤ℤ pos meeting_limit → IsInRange (mediant p q)
sum_in_range p q hp hq k l = record {
  positive = sum_positive p.W q.W hp.positive hq.positive;
  denominator = doubled p.W q.W k l;
  x = bounded p.X q.X p.W q.W hp.positive hq.positive hp.x hq.x;
  y = bounded p.Y q.Y p.W q.W hp.positive hq.positive hp.y hq.y;
}
  where
    doubled : (a b : ℤ) → a ≤ℤ pos meeting_limit → b ≤ℤ pos meeting_limit → (a +ℤ b) ≤ℤ pos denominator_limit
    doubled a b h m = omega (arith, ints)

    bounded : (x y a b : ℤ) → pos 0 <ℤ a → pos 0 <ℤ b → unsigned_abs x ≤ coordinate_limit * unsigned_abs a → unsigned_abs y ≤ coordinate_limit * unsigned_abs b
        → unsigned_abs (x +ℤ y) ≤ coordinate_limit * unsigned_abs (a +ℤ b)
    bounded x y a b h m e f = omega (arith, ints)

-- the numerators of a point in range fit 128 bits, and its denominator 64
pub record FitPoint (p : Point) : Type 0 where
  pub x : FitsSigned w128 p.X
  pub y : FitsSigned w128 p.Y
  pub w : FitsSigned w64 p.W

in_range_fits : (p : Point) → IsInRange p → FitPoint p
in_range_fits p h = record {
  x = numerator p.X p.W h.positive h.denominator h.x;
  y = numerator p.Y p.W h.positive h.denominator h.y;
  w = weight p.W h.positive h.denominator;
}
  where
    numerator : (x w : ℤ) → pos 0 <ℤ w → w ≤ℤ pos denominator_limit → unsigned_abs x ≤ coordinate_limit * unsigned_abs w → FitsSigned w128 x
    numerator x w k l m = omega (arith, ints)

    weight : (w : ℤ) → pos 0 <ℤ w → w ≤ℤ pos denominator_limit → FitsSigned w64 w
    weight w k l = omega (arith, ints)

-- sums that fit are what their bits are read as
sum_is_read : (v : Width) (x y : ℤ) → FitsSigned v x → FitsSigned v y → FitsSigned v (x +ℤ y) → to_z v (of_z v (to_z v (of_z v x) +ℤ to_z v (of_z v y))) ≡ x +ℤ y
sum_is_read v x y f g h = ap (λ z. to_z v (of_z v z)) (ap₂ (λ a b. a +ℤ b) (to_z-of_z v x f) (to_z-of_z v y g)) ∙ to_z-of_z v (x +ℤ y) h

-- the sums of two points' numbers as their bits hold them
abbrev pub read_sums : Point → Point → Point
read_sums p q = record {
  X = to_z w128 (of_z w128 (to_z w128 (of_z w128 p.X) +ℤ to_z w128 (of_z w128 q.X)));
  Y = to_z w128 (of_z w128 (to_z w128 (of_z w128 p.Y) +ℤ to_z w128 (of_z w128 q.Y)));
  W = to_z w64 (of_z w64 (to_z w64 (of_z w64 p.W) +ℤ to_z w64 (of_z w64 q.W)));
}

pub sums_are_read : (p q : Point) → IsInRange p → IsInRange q → IsInRange (mediant p q) → read_sums p q ≡ mediant p q
sums_are_read p q hp hq hm = λ i. record {
  X = sum_is_read w128 p.X q.X one.x other.x both.x i;
  Y = sum_is_read w128 p.Y q.Y one.y other.y both.y i;
  W = sum_is_read w64 p.W q.W one.w other.w both.w i;
}
  where
    one : FitPoint p
    one = in_range_fits p hp

    other : FitPoint q
    other = in_range_fits q hq

    both : FitPoint (mediant p q)
    both = in_range_fits (mediant p q) hm

-- ---- the products of an order

pub denominator_fits : (f : Fraction) → IsFractionInRange f → FitsSigned w64 f.denominator
denominator_fits f h = short f.denominator h.positive h.denominator
  where
    short : (w : ℤ) → pos 0 <ℤ w → w ≤ℤ pos denominator_limit → FitsSigned w64 w
    short w k l = omega (arith, ints)

-- a numerator, another fraction's denominator and their product fit
pub record FactorsFit (n d : ℤ) : Type 0 where
  pub numerator : FitsSigned w128 n
  pub denominator : FitsSigned w64 d
  pub product : FitsSigned w128 (n *ℤ d)

pub factors_fit : (f g : Fraction) → IsFractionInRange f → IsFractionInRange g → FactorsFit f.numerator g.denominator
factors_fit f g hf hg =
    let x : unsigned_abs f.numerator ≤ coordinate_limit * denominator_limit = bound f.numerator f.denominator hf.positive hf.denominator hf.numerator in
    let w : unsigned_abs g.denominator ≤ denominator_limit = weight g.denominator hg.positive hg.denominator in
    record {
      numerator = long f.numerator x;
      denominator = short g.denominator w;
      product = product (f.numerator *ℤ g.denominator) (rw unsigned_abs-mul (mul-le-mul x w));
    }
  where
    bound : (x w : ℤ) → pos 0 <ℤ w → w ≤ℤ pos denominator_limit → unsigned_abs x ≤ coordinate_limit * unsigned_abs w → unsigned_abs x ≤ coordinate_limit * denominator_limit
    bound x w k l m = omega (arith, ints)

    weight : (w : ℤ) → pos 0 <ℤ w → w ≤ℤ pos denominator_limit → unsigned_abs w ≤ denominator_limit
    weight w k l = omega (arith, ints)

    long : (z : ℤ) → unsigned_abs z ≤ coordinate_limit * denominator_limit → FitsSigned w128 z
    long z h = omega (arith, ints)

    short : (z : ℤ) → unsigned_abs z ≤ denominator_limit → FitsSigned w64 z
    short z h = omega (arith, ints)

    product : (z : ℤ) → unsigned_abs z ≤ coordinate_limit * denominator_limit * denominator_limit → FitsSigned w128 z
    product z h = omega (arith, ints)
