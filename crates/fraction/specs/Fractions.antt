-- One coordinate of a point: a fraction, its equality and its order.
use Rattle.std.specs.Prelude.{Bool, ℤ, pos, ◌*ℤ◌, ◌<ℤ◌}
use Rattle.std.specs.declared.cmp.Ordering.{Ordering}
use Rattle.std.specs.Ordering.{int_cmp, int_eq}
use Rattle.geometry_model.specs.Points.{Point}

-- a quotient of two whole numbers (06-103r4, 6.1.4; rational coordinates alone: this project's choice)
pub record Fraction : Type 0 where
  pub numerator : ℤ
  pub denominator : ℤ

-- a quotient is a number if its denominator is at least 1
abbrev pub IsFraction : Fraction → Type 0
IsFraction f = pos 0 <ℤ f.denominator

-- the first coordinate of a point
abbrev pub x_of : Point → Fraction
x_of p = record { numerator = p.X; denominator = p.W }

-- the second coordinate of a point
abbrev pub y_of : Point → Fraction
y_of p = record { numerator = p.Y; denominator = p.W }

-- two fractions are the same number: compared without division
abbrev pub same_fraction : Fraction → Fraction → Bool
same_fraction f g = int_eq (f.numerator *ℤ g.denominator) (g.numerator *ℤ f.denominator)

-- the order of two fractions as numbers
abbrev pub compare_fractions : Fraction → Fraction → Ordering
compare_fractions f g = int_cmp (f.numerator *ℤ g.denominator) (g.numerator *ℤ f.denominator)
