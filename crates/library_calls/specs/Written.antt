-- A geometry as arrays: the number of its type, its positions one after another, and the sizes of its parts.
use Rattle.std.specs.Prelude.{ℕ, suc, ◌==◌, ◌-◌, Bool, ◌&&◌, if◌then◌else◌, nat_le, nat_lt, List, [], ◌∷◌, length, take, drop, slice_get, unsigned_abs, Option, Some, None, Result, Ok, Err}
use Rattle.geometry_model.specs.CheckedTexts.{tested}
use Rattle.geometry_model.specs.Geometries.{Geometry, Point, MultiPoint, LineString, MultiLineString, Polygon, MultiPolygon}
use Rattle.geometry_model.specs.Points.{Position}
use Rattle.geometry_model.specs.WellKnownText.{coordinate_limit, geometry_of, part_limit, position_limit, written_parts, written_positions}
use Rattle.geometry_model.specs.declared.geometry_faults.GeometryFault.{GeometryFault}
use Rattle.geometry_model.specs.declared.shapes.GeometryType.{GeometryType}
use Rattle.geometry_model.specs.declared.shapes.GeometryType.TheVariants as types
use Rattle.geometry_model.specs.declared.text_faults.TextFault.{TextFault}
use Rattle.geometry_model.specs.declared.text_faults.TextFault.TheVariants.{OutOfRange, TooLong}

-- the type of a number (06-103r4, 8.2: wkbPoint to wkbMultiPolygon)
abbrev pub type_numbered : ℕ → Option GeometryType
type_numbered n =
    if n == 1 then Some types.Point
    else if n == 2 then Some types.LineString
    else if n == 3 then Some types.Polygon
    else if n == 4 then Some types.MultiPoint
    else if n == 5 then Some types.MultiLineString
    else if n == 6 then Some types.MultiPolygon
    else None

-- the items in parts of these sizes, one after another
abbrev pub parts_of : {A : Type 0} → List ℕ → List A → List (List A)
parts_of [] items = []
parts_of (size ∷ sizes) items = take size items ∷ parts_of sizes (drop size items)

-- parts of these sizes, none of them empty, use up this many items
abbrev pub use_up : List ℕ → ℕ → Bool
use_up [] count = count == 0
use_up (size ∷ sizes) count = nat_lt 0 size && nat_le size count && use_up sizes (count - size)

-- the type has such parts: a point at most one position; lines and rings their positions, and polygons their rings
abbrev pub fits : GeometryType → ℕ → List ℕ → List ℕ → Bool
fits types.Point count lines polygons = nat_le count 1 && length lines == 0 && length polygons == 0
fits types.MultiPoint count lines polygons = length lines == 0 && length polygons == 0
fits types.LineString count lines polygons = length lines == 0 && length polygons == 0
fits types.MultiLineString count lines polygons = use_up lines count && length polygons == 0
fits types.Polygon count lines polygons = use_up lines count && length polygons == 0
fits types.MultiPolygon count lines polygons = use_up lines count && use_up polygons (length lines)

-- the type of a number, where it has such parts
abbrev pub fitting : Option GeometryType → ℕ → List ℕ → List ℕ → Option GeometryType
fitting None count lines polygons = None
fitting (Some geometry_type) count lines polygons = if fits geometry_type count lines polygons then Some geometry_type else None

abbrev pub fitting_type : ℕ → ℕ → List ℕ → List ℕ → Option GeometryType
fitting_type number count lines polygons = fitting (type_numbered number) count lines polygons

-- what the arrays write: the type with all positions as they are given, also equal ones (06-103r4, 6.1.4 to 6.1.14)
abbrev pub written_as : GeometryType → List Position → List ℕ → List ℕ → Geometry
written_as types.Point ps lines polygons = Point (slice_get ps 0)
written_as types.MultiPoint ps lines polygons = MultiPoint ps
written_as types.LineString ps lines polygons = LineString ps
written_as types.MultiLineString ps lines polygons = MultiLineString (parts_of lines ps)
written_as types.Polygon ps lines polygons = Polygon (parts_of lines ps)
written_as types.MultiPolygon ps lines polygons = MultiPolygon (parts_of polygons (parts_of lines ps))

-- both coordinates are within the limit
abbrev pub is_on_grid : Position → Bool
is_on_grid p = nat_le (unsigned_abs p.x) coordinate_limit && nat_le (unsigned_abs p.y) coordinate_limit

-- the number of the first position with a coordinate past the limit, counted from a number on
abbrev pub first_past_limit : ℕ → List Position → Option ℕ
first_past_limit at [] = None
first_past_limit at (p ∷ ps) = if is_on_grid p then first_past_limit (suc at) ps else Some at

-- the geometry of what is written, unless a coordinate is past the limit
abbrev pub within_or : Geometry → Option ℕ → Result Geometry TextFault
within_or written None = Ok (geometry_of written)
within_or written (Some at) = Err (OutOfRange at)

-- positions and parts are within their limits
abbrev pub is_within_counts : Geometry → Bool
is_within_counts written = nat_le (length (written_positions written)) position_limit && nat_le (length (written_parts written)) part_limit

-- the geometry of what is written, or its fault: too many positions or parts (W4), then the first position with a coordinate past
-- the limit (W3, with its number) (06-103r4, 6.1; the limits and the order: this project's choice)
abbrev pub taken : Geometry → Result Geometry TextFault
taken written =
    if is_within_counts written then within_or written (first_past_limit 0 (written_positions written))
    else Err TooLong

-- the valid geometry of what is written, or its first fault: one of these, then one of the geometry (06-103r4, 6.1)
unfoldable pub geometry_in_arrays : Geometry → Result Geometry GeometryFault
geometry_in_arrays written = tested (taken written)
