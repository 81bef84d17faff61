-- Geometries: a type and lists of positions.
use Rattle.std.specs.Prelude.{Bool, ◌==◌, List, [], ◌∷◌, ◌++◌, length, flat_map, Option, is_none, option_to_list}
use Rattle.geometry_model.specs.Points.{Position}
use Rattle.geometry_model.specs.declared.shapes.GeometryType.{GeometryType}
use Rattle.geometry_model.specs.declared.shapes.GeometryType.TheVariants as types
use Rattle.geometry_model.specs.declared.shapes.Kind.{Kind}
use Rattle.geometry_model.specs.declared.shapes.Kind.TheVariants as kinds

-- a geometry: a Point is a position or none; a MultiPoint positions; a LineString positions from start to end; a
-- MultiLineString lines; a Polygon rings, the outer one first; a MultiPolygon polygons (06-103r4, 6.1.4 to 6.1.14)
pub data Geometry : Type 0 where
  Point : Option Position → Geometry
  MultiPoint : List Position → Geometry
  LineString : List Position → Geometry
  MultiLineString : List (List Position) → Geometry
  Polygon : List (List Position) → Geometry
  MultiPolygon : List (List (List Position)) → Geometry

-- the type of a geometry (06-103r4, 6.1.2.2: GeometryType)
abbrev pub type_of : Geometry → GeometryType
type_of (Point p) = types.Point
type_of (MultiPoint ps) = types.MultiPoint
type_of (LineString ps) = types.LineString
type_of (MultiLineString ls) = types.MultiLineString
type_of (Polygon rs) = types.Polygon
type_of (MultiPolygon es) = types.MultiPolygon

-- the kind of a type: points, lines or areas (06-103r4, 6.1.15.3)
abbrev pub kind_of_type : GeometryType → Kind
kind_of_type types.Point = kinds.Point
kind_of_type types.MultiPoint = kinds.Point
kind_of_type types.LineString = kinds.Line
kind_of_type types.MultiLineString = kinds.Line
kind_of_type types.Polygon = kinds.Area
kind_of_type types.MultiPolygon = kinds.Area

-- the kind of a geometry, also of an empty one (06-103r4, 6.1.15.3)
abbrev pub kind : Geometry → Kind
kind g = kind_of_type (type_of g)

-- the rings of some polygons, in order (06-103r4, 6.1.13 and 6.1.14)
abbrev pub joined_rings : List (List (List Position)) → List (List Position)
joined_rings es = flat_map (λ rings. rings) es

-- the geometry is the empty set of points (06-103r4, 6.1.2.2)
abbrev pub is_empty : Geometry → Bool
is_empty (Point p) = is_none p
is_empty (MultiPoint ps) = length ps == 0
is_empty (LineString ps) = length ps == 0
is_empty (MultiLineString ls) = length ls == 0
is_empty (Polygon rs) = length rs == 0
is_empty (MultiPolygon es) = length (joined_rings es) == 0

-- the listed positions of a point type; other types have none (06-103r4, 6.1.4 and 6.1.5)
abbrev pub listed : Geometry → List Position
listed (Point p) = option_to_list p
listed (MultiPoint ps) = ps
listed (LineString ps) = []
listed (MultiLineString ls) = []
listed (Polygon rs) = []
listed (MultiPolygon es) = []

-- the lines or rings of a geometry; point types have none (06-103r4, 6.1.7, 6.1.9, 6.1.11 and 6.1.14)
abbrev pub lines : Geometry → List (List Position)
lines (Point p) = []
lines (MultiPoint ps) = []
lines (LineString ps) = ps ∷ []
lines (MultiLineString ls) = ls
lines (Polygon rs) = rs
lines (MultiPolygon es) = joined_rings es

-- the polygons of an area, each as its rings, the outer one first; other types have none (06-103r4, 6.1.11.1 and 6.1.14)
abbrev pub elements : Geometry → List (List (List Position))
elements (Point p) = []
elements (MultiPoint ps) = []
elements (LineString ps) = []
elements (MultiLineString ls) = []
elements (Polygon rs) = rs ∷ []
elements (MultiPolygon es) = es

-- the rings of an area, in order; other types have none (06-103r4, 6.1.11.1 and 6.1.14)
abbrev pub rings : Geometry → List (List Position)
rings (Point p) = []
rings (MultiPoint ps) = []
rings (LineString ps) = []
rings (MultiLineString ls) = []
rings (Polygon rs) = rs
rings (MultiPolygon es) = joined_rings es

-- all positions of a geometry, in order (06-103r4, 6.1.4 to 6.1.14)
abbrev pub positions : Geometry → List Position
positions g = listed g ++ flat_map (λ line. line) (lines g)

-- an edge: the straight line between two positions (06-103r4, 6.1.7: Line)
pub record Edge : Type 0 where
  pub start : Position
  pub end : Position

-- the edges of a line or ring: its pairs of consecutive positions (06-103r4, 6.1.7: linear interpolation)
abbrev pub edges_of_line : List Position → List Edge
edges_of_line [] = []
edges_of_line (a ∷ []) = []
edges_of_line (a ∷ b ∷ rest) = record { start = a; end = b } ∷ edges_of_line (b ∷ rest)

-- the edges of lines or rings, in order (06-103r4, 6.1.7 to 6.1.11)
abbrev pub edges_of_lines : List (List Position) → List Edge
edges_of_lines ls = flat_map edges_of_line ls

-- the edges of a geometry, in order (06-103r4, 6.1.7 to 6.1.11)
abbrev pub edges : Geometry → List Edge
edges g = edges_of_lines (lines g)
