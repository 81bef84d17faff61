-- In which part of a geometry a point lies: its interior, its boundary or its exterior.
use Rattle.std.specs.Prelude.{◌≡◌, Bool, List, [], ◌∷◌, if◌then◌else◌, count_by, flat_map, option_to_list}
use Rattle.std.specs.List.{list_any}
use Rattle.geometry_model.specs.Points.{Position, Point, same_point, point_at}
use Rattle.geometry_model.specs.Geometries.{Geometry, edges_of_lines, joined_rings}
use Rattle.geometry_model.specs.Sides.{on}
use Rattle.geometry_model.specs.Crossings.{odd, odd_above}
use Rattle.geometry_model.specs.declared.point_sets.Location.{Location}
use Rattle.geometry_model.specs.declared.point_sets.Location.TheVariants.{Interior, Boundary, Exterior}

-- the point is at the position (06-103r4, 6.1.4)
abbrev pub is_at : Point → Position → Bool
is_at p a = same_point (point_at a) p

-- the last position of a line that begins with a (06-103r4, 6.1.6.1)
abbrev pub last_after : Position → List Position → Position
last_after a [] = a
last_after a (b ∷ rest) = last_after b rest

-- the two ends of a line, of a closed one the same position twice (06-103r4, 6.1.6.1)
abbrev pub ends : List Position → List Position
ends [] = []
ends (a ∷ rest) = a ∷ last_after a rest ∷ []

-- the point lies on some edge of the lines or rings (06-103r4, 6.1.7)
abbrev pub on_some : List (List Position) → Point → Bool
on_some ls p = list_any (λ e. on e p) (edges_of_lines ls)

-- an odd number of line ends are at the point (06-103r4, 6.1.8.1: the mod 2 rule)
abbrev pub is_odd_end : List (List Position) → Point → Bool
is_odd_end ls p = odd (count_by (is_at p) (flat_map ends ls))

-- points: the listed ones are the interior, and the boundary is empty (06-103r4, 6.1.4 and 6.1.5)
abbrev pub in_points : List Position → Point → Location
in_points ps p = if list_any (is_at p) ps then Interior else Exterior

-- lines: the boundary is the odd ends; the interior is the rest of the lines (06-103r4, 6.1.6.1 and 6.1.8.1: the mod 2 rule)
abbrev pub in_lines : List (List Position) → Point → Location
in_lines ls p =
    if is_odd_end ls p then Boundary
    else if on_some ls p then Interior
    else Exterior

-- an area: the boundary is its rings; the interior is what is inside them (06-103r4, 6.1.11.1 and 6.1.14)
abbrev pub in_rings : List (List Position) → Point → Location
in_rings rs p =
    if on_some rs p then Boundary
    else if odd_above rs p then Interior
    else Exterior

-- where a point lies in a geometry (06-103r4, 6.1.15.2)
abbrev pub locate : Geometry → Point → Location
locate (Geometry.Point o) p = in_points (option_to_list o) p
locate (Geometry.MultiPoint ps) p = in_points ps p
locate (Geometry.LineString ps) p = in_lines (ps ∷ []) p
locate (Geometry.MultiLineString ls) p = in_lines ls p
locate (Geometry.Polygon rs) p = in_rings rs p
locate (Geometry.MultiPolygon es) p = in_rings (joined_rings es) p

-- a geometry's interior, boundary or exterior, as a set of points (06-103r4, 6.1.15.2)
abbrev pub part : Geometry → Location → Point → Type 0
part g l p = locate g p ≡ l
