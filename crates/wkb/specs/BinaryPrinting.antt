-- Printing well-known binary: the bytes of a geometry whose positions are on a grid, the least byte of each number first.
use Rattle.std.specs.Prelude.{ℕ, ◌+◌, ◌*◌, ◌%◌, ◌^◌, List, ◌∷◌, ◌++◌, length, Some, None}
use Rattle.std.specs.Int.{w32, w64, to_le_bytes}
use Rattle.std.specs.List.{flat_map}
use Rattle.geometry_model.specs.Points.{Position}
use Rattle.geometry_model.specs.Geometries.{Geometry, Point, MultiPoint, LineString, MultiLineString, Polygon, MultiPolygon}
use Rattle.geometry_model.specs.declared.shapes.GeometryType.{GeometryType}
use Rattle.geometry_model.specs.declared.shapes.GeometryType.TheVariants as types
use Rattle.wkb.specs.NearestDoubles.{double_at}
use Rattle.wkb.specs.declared.grids.Grid.{Grid}

-- the number of a type (06-103r4, 8.2.3: wkbType)
abbrev pub code_of : GeometryType → ℕ
code_of types.Point = 1
code_of types.LineString = 2
code_of types.Polygon = 3
code_of types.MultiPoint = 4
code_of types.MultiLineString = 5
code_of types.MultiPolygon = 6

-- a number of positions, rings or elements (06-103r4, 8.2.2: uint32)
abbrev pub count_bytes : ℕ → List ℕ
count_bytes count = to_le_bytes w32 (count % 2 ^ 32)

-- the order of the bytes, then the type (06-103r4, 8.2.3: wkbNDR)
abbrev pub head_bytes : GeometryType → List ℕ
head_bytes shape = 1 ∷ to_le_bytes w32 (code_of shape)

-- the double that is no number, as an empty point is written (this project's choice, as GEOS writes it)
abbrev pub no_number : ℕ
no_number = 2047 * 2 ^ 52 + 2 ^ 51

abbrev pub empty_bytes : List ℕ
empty_bytes = to_le_bytes w64 no_number ++ to_le_bytes w64 no_number

-- a position: the doubles that are nearest to its coordinates (06-103r4, 8.2.3: Point)
abbrev pub position_bytes : Grid → Position → List ℕ
position_bytes grid p = to_le_bytes w64 (double_at grid.x p.x) ++ to_le_bytes w64 (double_at grid.y p.y)

-- a line or ring, with the number of its positions before it (06-103r4, 8.2.3: LinearRing)
abbrev pub line_bytes : Grid → List Position → List ℕ
line_bytes grid ps = count_bytes (length ps) ++ flat_map (position_bytes grid) ps

-- rings, with their number before them (06-103r4, 8.2.3: Polygon)
abbrev pub rings_bytes : Grid → List (List Position) → List ℕ
rings_bytes grid rings = count_bytes (length rings) ++ flat_map (line_bytes grid) rings

-- elements, each with its head (06-103r4, 8.2.3: WKBPoint, WKBLineString and WKBPolygon)
abbrev pub point_element : Grid → Position → List ℕ
point_element grid p = head_bytes types.Point ++ position_bytes grid p

abbrev pub line_element : Grid → List Position → List ℕ
line_element grid ps = head_bytes types.LineString ++ line_bytes grid ps

abbrev pub polygon_element : Grid → List (List Position) → List ℕ
polygon_element grid rings = head_bytes types.Polygon ++ rings_bytes grid rings

-- the bytes of a geometry (06-103r4, 8.2.3: WKBGeometry)
abbrev pub printed : Grid → Geometry → List ℕ
printed grid (Point None) = head_bytes types.Point ++ empty_bytes
printed grid (Point (Some p)) = point_element grid p
printed grid (MultiPoint ps) = head_bytes types.MultiPoint ++ (count_bytes (length ps) ++ flat_map (point_element grid) ps)
printed grid (LineString ps) = line_element grid ps
printed grid (MultiLineString lines) = head_bytes types.MultiLineString ++ (count_bytes (length lines) ++ flat_map (line_element grid) lines)
printed grid (Polygon rings) = polygon_element grid rings
printed grid (MultiPolygon es) = head_bytes types.MultiPolygon ++ (count_bytes (length es) ++ flat_map (polygon_element grid) es)
