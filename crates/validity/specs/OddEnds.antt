-- Odd ends: the positions at which an odd number of line ends meet.
use Rattle.std.specs.Prelude.{◌≡◌, ℕ, ◌-◌, ◌<◌, ◌≤◌, Bool, false, ◌&&◌, nat_lt, cond, List, [], ◌∷◌, ◌++◌, length, take, get_or, count_by}
use Rattle.std.specs.List.{list_any}
use Rattle.std.specs.List.Sorted.{IsStrictlySortedBy}
use Rattle.std.specs.Ordering.{is_lt}
use Rattle.geometry_model.specs.Points.{Position, Point, IsPoint}
use Rattle.geometry_model.specs.Geometries.{Geometry}
use Rattle.geometry_model.specs.Crossings.{odd}
use Rattle.geometry_model.specs.Locations.{is_at, is_odd_end}
use Rattle.geometry_model.specs.WellKnownText.{same_position}
use Rattle.fraction.specs.Orders.{position_order}

-- the lines whose ends may be a boundary: those of a LINESTRING or a MULTILINESTRING (06-103r4, 6.1.6.1 and 6.1.8.1)
abbrev pub ended_lines : Geometry → List (List Position)
ended_lines (Geometry.Point p) = []
ended_lines (Geometry.MultiPoint ps) = []
ended_lines (Geometry.LineString ps) = ps ∷ []
ended_lines (Geometry.MultiLineString ls) = ls
ended_lines (Geometry.Polygon rs) = []
ended_lines (Geometry.MultiPolygon es) = []

-- the positions ascend, each listed once, and a point is at one of them exactly where an odd number of the lines' ends are at it (06-103r4, 6.1.8.1: the mod 2 rule)
pub record AreOddEnds (positions : List Position) (ls : List (List Position)) : Type 0 where
  pub ascend : IsStrictlySortedBy position_order positions
  pub exact : (p : Point) → IsPoint p → list_any (is_at p) positions ≡ is_odd_end ls p

-- the last position of the list is this one
abbrev pub ends_in : List Position → Position → Bool
ends_in positions a = nat_lt 0 (length positions) && same_position (get_or positions (length positions - 1) a) a

-- the list without its last position if that is this one, else with this one added
abbrev pub toggled : List Position → Position → List Position
toggled positions a = cond (ends_in positions a) (take (length positions - 1) positions) (positions ++ a ∷ [])

-- at each point, the numbers of positions of both lists are both odd or both even
abbrev pub HasParityOf : List Position → List Position → Type 0
HasParityOf positions given = (p : Point) → odd (count_by (is_at p) positions) ≡ odd (count_by (is_at p) given)

-- no position from this place on is less than this one
abbrev pub IsBeforeRest : List Position → ℕ → Position → Type 0
IsBeforeRest given from a = (j : ℕ) (d : Position) → from ≤ j → j < length given → is_lt (position_order (get_or given j d) a) ≡ false
