-- The ranges of the numbers of positions and points.
use Rattle.std.specs.Prelude.{ℕ, ◌*◌, ◌≤◌, pos, ◌≤ℤ◌, unsigned_abs}
use Rattle.geometry_model.specs.Points.{Position, Point, IsPoint, IsLeast}
use Rattle.geometry_model.specs.WellKnownText.{coordinate_limit}
use Rattle.fraction.specs.Fractions.{Fraction, IsFraction}

-- a position on the grid has both coordinates within the limit
pub record IsOnGrid (a : Position) : Type 0 where
  pub x : unsigned_abs a.x ≤ coordinate_limit
  pub y : unsigned_abs a.y ≤ coordinate_limit

-- the greatest denominator of a point at which two segments of the grid meet
abbrev pub meeting_limit : ℕ
meeting_limit = 8 * coordinate_limit * coordinate_limit

-- the greatest denominator of a point: twice that, so that the mediant of two such points is one
abbrev pub denominator_limit : ℕ
denominator_limit = 16 * coordinate_limit * coordinate_limit

-- the point's coordinates and its denominator are within their limits
pub record IsInRange (p : Point) : Type 0 where
  pub positive : IsPoint p
  pub denominator : p.W ≤ℤ pos denominator_limit
  pub x : unsigned_abs p.X ≤ coordinate_limit * unsigned_abs p.W
  pub y : unsigned_abs p.Y ≤ coordinate_limit * unsigned_abs p.W

-- the fraction is a coordinate of such a point
pub record IsFractionInRange (f : Fraction) : Type 0 where
  pub positive : IsFraction f
  pub denominator : f.denominator ≤ℤ pos denominator_limit
  pub numerator : unsigned_abs f.numerator ≤ coordinate_limit * unsigned_abs f.denominator

-- a point as it is kept: its numbers are in range and in least form
pub record IsKeptPoint (p : Point) : Type 0 where
  pub range : IsInRange p
  pub least : IsLeast p
