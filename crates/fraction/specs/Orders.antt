-- The orders as the comparison traits need them: lawful over all records of numbers, also over those that aren't fractions or points.
use Rattle.std.specs.Prelude.{pos}
use Rattle.std.specs.declared.cmp.Ordering.{Ordering}
use Rattle.std.specs.Ordering.{int_cmp, on, then_cmp}
use Rattle.std.specs.Int.{int_max}
use Rattle.geometry_model.specs.Points.{Position, Point}
use Rattle.fraction.specs.Fractions.{Fraction, x_of, y_of, compare_fractions}

-- positions by x, then by y
abbrev pub position_order : Position → Position → Ordering
position_order = then_cmp (on (λ a. a.x) int_cmp) (on (λ a. a.y) int_cmp)

-- a denominator below 1 is read as 1; no fraction of the code has one
abbrev pub made_fraction : Fraction → Fraction
made_fraction f = record { numerator = f.numerator; denominator = int_max (pos 1) f.denominator }

-- fractions by their values
abbrev pub fraction_order : Fraction → Fraction → Ordering
fraction_order = on made_fraction compare_fractions

-- points by x, then by y
abbrev pub point_order : Point → Point → Ordering
point_order = then_cmp (on x_of fraction_order) (on y_of fraction_order)
