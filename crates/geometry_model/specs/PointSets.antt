-- Interior, boundary and exterior as facts about a point, near to the standard's words. `Locations` computes the same.
use Rattle.std.specs.Prelude.{List, [], ◌∷◌, IsTrue, Any, option_to_list}
use Rattle.geometry_model.specs.Points.{Position, Point}
use Rattle.geometry_model.specs.Geometries.{Geometry, edges_of_lines, joined_rings}
use Rattle.geometry_model.specs.Sides.{on}
use Rattle.geometry_model.specs.Crossings.{odd_above}
use Rattle.geometry_model.specs.Locations.{is_at, is_odd_end}

-- the point is at one of the positions (06-103r4, 6.1.4 and 6.1.5)
abbrev pub IsListed : List Position → Point → Type 0
IsListed ps p = Any (λ a. IsTrue (is_at p a)) ps

-- the point lies on an edge of the lines or rings (06-103r4, 6.1.7)
abbrev pub LiesOn : List (List Position) → Point → Type 0
LiesOn ls p = Any (λ e. IsTrue (on e p)) (edges_of_lines ls)

-- an odd number of line ends are at the point (06-103r4, 6.1.8.1: the mod 2 rule)
abbrev pub IsOddEnd : List (List Position) → Point → Type 0
IsOddEnd ls p = IsTrue (is_odd_end ls p)

-- the interior: the listed points; the points of lines that aren't boundary; what is inside the rings and not on them (06-103r4, 6.1.4 to 6.1.14)
abbrev pub IsInterior : Geometry → Point → Type 0
IsInterior (Geometry.Point o) p = IsListed (option_to_list o) p
IsInterior (Geometry.MultiPoint ps) p = IsListed ps p
IsInterior (Geometry.LineString ps) p = LiesOn (ps ∷ []) p × ¬ (IsOddEnd (ps ∷ []) p)
IsInterior (Geometry.MultiLineString ls) p = LiesOn ls p × ¬ (IsOddEnd ls p)
IsInterior (Geometry.Polygon rs) p = IsTrue (odd_above rs p) × ¬ (LiesOn rs p)
IsInterior (Geometry.MultiPolygon es) p = IsTrue (odd_above (joined_rings es) p) × ¬ (LiesOn (joined_rings es) p)

-- the boundary: of points nothing; of lines the odd ends; of an area its rings (06-103r4, 6.1.4 to 6.1.14)
abbrev pub IsBoundary : Geometry → Point → Type 0
IsBoundary (Geometry.Point o) p = ⊥
IsBoundary (Geometry.MultiPoint ps) p = ⊥
IsBoundary (Geometry.LineString ps) p = IsOddEnd (ps ∷ []) p
IsBoundary (Geometry.MultiLineString ls) p = IsOddEnd ls p
IsBoundary (Geometry.Polygon rs) p = LiesOn rs p
IsBoundary (Geometry.MultiPolygon es) p = LiesOn (joined_rings es) p

-- the exterior: all points of the plane that are neither (06-103r4, 6.1.15.2)
abbrev pub IsExterior : Geometry → Point → Type 0
IsExterior g p = ¬ (IsInterior g p) × ¬ (IsBoundary g p)
