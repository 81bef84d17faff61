-- A point between two others in the order of points.
use Rattle.std.specs.Prelude.{◌≡◌}
use Rattle.geometry_model.specs.Points.{Point, compare}

-- the first compares with m, and m with the second, as the first does with the second; so m lies strictly between them
-- if they differ
pub record IsBetween (first m second : Point) : Type 0 where
  pub from_first : compare first m ≡ compare first second
  pub to_second : compare m second ≡ compare first second
