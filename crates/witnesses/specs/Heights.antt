-- How high straight above a point, or how deep straight below it, something is.
use Rattle.std.specs.Prelude.{◌≡◌, ℕ, ◌*◌, ◌≤◌, true, ℤ, pos, ◌+ℤ◌, ◌-ℤ◌, ◌*ℤ◌, ◌≤ℤ◌, ◌<ℤ◌, unsigned_abs}
use Rattle.geometry_model.specs.Points.{Position, Point, IsPoint, point_at}
use Rattle.geometry_model.specs.Geometries.{Edge}
use Rattle.geometry_model.specs.Sides.{on}
use Rattle.geometry_model.specs.WellKnownText.{coordinate_limit}
use Rattle.orient.specs.SideLimit.{side_limit}
use Rattle.geometry_laws.specs.CoverLaws.{IsStraightOver}
use Rattle.witnesses.specs.declared.heights.Side.{Side}
use Rattle.witnesses.specs.declared.heights.Side.TheVariants.{Upper, Lower}
use Rattle.witnesses.specs.declared.heights.Height.{Height}

-- how far z lies above p, or below it, times both denominators
abbrev pub ahead : Side → Point → Point → ℤ
ahead Upper p z = z.Y *ℤ p.W -ℤ p.Y *ℤ z.W
ahead Lower p z = p.Y *ℤ z.W -ℤ z.Y *ℤ p.W

-- z is straight above p, or straight below it
pub record IsAhead (side : Side) (p z : Point) : Type 0 where
  pub is_point : IsPoint z
  pub straight : IsStraightOver z p
  pub ahead : pos 0 <ℤ ahead side p z

-- z is no nearer to p than the height is: the height is rise/run steps over p's denominator, and without end where run is 0
abbrev pub IsPast : Side → Point → Height → Point → Type 0
IsPast side p h z = (h.rise *ℤ z.W) ≤ℤ (h.run *ℤ ahead side p z)

-- what is past the first height is past the second
abbrev pub Keeps : Side → Point → Height → Height → Type 0
Keeps side p h g = (z : Point) → IsAhead side p z → IsPast side p h z → IsPast side p g z

-- all points of the edge straight ahead are past the height
abbrev pub ClearsEdge : Side → Point → Height → Edge → Type 0
ClearsEdge side p h e = (z : Point) → IsAhead side p z → on e z ≡ true → IsPast side p h z

-- the position, if it is straight ahead, is past the height
abbrev pub ClearsPosition : Side → Point → Height → Position → Type 0
ClearsPosition side p h a = IsAhead side p (point_at a) → IsPast side p h (point_at a)

-- the greatest rise: that of the number whose sign is a side
abbrev pub rise_limit : ℕ
rise_limit = side_limit

-- the rise is at least 1, the run at least 0, and both are within their limits
pub record IsHeight (h : Height) : Type 0 where
  pub positive : pos 0 <ℤ h.rise
  pub rise : unsigned_abs h.rise ≤ rise_limit
  pub forward : pos 0 ≤ℤ h.run
  pub run : unsigned_abs h.run ≤ 2 * coordinate_limit

-- the point moved ahead by rise/scale steps over its denominator
abbrev pub moved_point : Side → Point → ℤ → ℤ → Point
moved_point Upper p scale rise = record { X = scale *ℤ p.X; Y = scale *ℤ p.Y +ℤ rise; W = scale *ℤ p.W }
moved_point Lower p scale rise = record { X = scale *ℤ p.X; Y = scale *ℤ p.Y -ℤ rise; W = scale *ℤ p.W }
