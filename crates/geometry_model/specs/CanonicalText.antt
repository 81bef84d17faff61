-- The canonical text of a geometry (06-103r4, 7.2.2; which of its texts is the canonical one: this project's choice).
use Rattle.std.specs.Prelude.{ℕ, List, [], ◌∷◌, ◌++◌, map, codes}
use Rattle.std.specs.List.{join_with_byte}
use Rattle.std.specs.Option.{option_to_list}
use Rattle.std.specs.Fmt.{signed_decimal}
use Rattle.geometry_model.specs.Points.{Position}
use Rattle.geometry_model.specs.Geometries.{Geometry, Point, MultiPoint, LineString, MultiLineString, Polygon, MultiPolygon}

-- the numbers in shortest decimal form, one space between (06-103r4, 7.2.2: point)
abbrev pub position_text : Position → List ℕ
position_text p = signed_decimal p.x ++ codes " " ++ signed_decimal p.y

-- in parentheses, with commas between and no white space
abbrev pub listed_text : List (List ℕ) → List ℕ
listed_text parts = codes "(" ++ join_with_byte 44 parts ++ codes ")"

-- the positions of a line or ring (06-103r4, 7.2.2: linestring text)
abbrev pub line_text : List Position → List ℕ
line_text ps = listed_text (map position_text ps)

-- the rings of a polygon (06-103r4, 7.2.2: polygon text)
abbrev pub polygon_text : List (List Position) → List ℕ
polygon_text rings = listed_text (map line_text rings)

-- a point of a MULTIPOINT, in parentheses (06-103r4, 7.2.2: point text)
abbrev pub point_text : Position → List ℕ
point_text p = listed_text (position_text p ∷ [])

-- the type's name and its parts, or EMPTY with one space before it (06-103r4, 7.2.2: tagged text)
abbrev pub tagged_text : List ℕ → List (List ℕ) → List ℕ
tagged_text name [] = name ++ codes " EMPTY"
tagged_text name (part ∷ more) = name ++ listed_text (part ∷ more)

-- the canonical text of a geometry; white space is only between x and y and before EMPTY
abbrev pub canonical_text : Geometry → List ℕ
canonical_text (Point p) = tagged_text (codes "POINT") (map position_text (option_to_list p))
canonical_text (MultiPoint ps) = tagged_text (codes "MULTIPOINT") (map point_text ps)
canonical_text (LineString ps) = tagged_text (codes "LINESTRING") (map position_text ps)
canonical_text (MultiLineString lines) = tagged_text (codes "MULTILINESTRING") (map line_text lines)
canonical_text (Polygon rings) = tagged_text (codes "POLYGON") (map line_text rings)
canonical_text (MultiPolygon polygons) = tagged_text (codes "MULTIPOLYGON") (map polygon_text polygons)
