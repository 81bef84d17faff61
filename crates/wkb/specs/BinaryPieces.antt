-- Taking well-known binary apart: its type and its doubles as they are, without a grid and without limits.
use Rattle.std.specs.Prelude.{ℕ, zero, suc, ◌==◌, Bool, List, [], ◌∷◌, ◌++◌, Result, Ok, Err, if◌then◌else◌}
use Rattle.geometry_model.specs.declared.shapes.GeometryType.{GeometryType}
use Rattle.geometry_model.specs.declared.shapes.GeometryType.TheVariants as types
use Rattle.wkb.specs.BinaryReading.{State, Reader, ◌>>=◌, ◌>>◌, pure, byte, word, pair, head, element, end, start, is_empty_pair}
use Rattle.wkb.specs.declared.binary_fault.Refusal.{Refusal}
use Rattle.wkb.specs.declared.elements.Element.{Element}
use Rattle.wkb.specs.declared.elements.Element.TheVariants as elements
use Rattle.wkb.specs.declared.pairs.Pair.{Pair}

-- what was found: the positions, how many of them each line or ring has, and how many lines or rings each element has; an element that is
-- no MULTI type's is the one element of its geometry, a point has one line of one position, and an empty point or line has none (this
-- project's choice)
pub record Pieces : Type 0 where
  pub positions : List Pair
  pub lines : List ℕ
  pub elements : List ℕ

-- nothing was found
abbrev pub nothing : Pieces
nothing = record { positions = []; lines = []; elements = [] }

-- one position more
abbrev pub with_position : Pair → Pieces → Pieces
with_position p before = record before { positions = before.positions ++ p ∷ [] }

-- one line or ring more, which has so many positions
abbrev pub with_line : ℕ → Pieces → Pieces
with_line count before = record before { lines = before.lines ++ count ∷ [] }

-- one element more, which has so many lines or rings
abbrev pub with_element : ℕ → Pieces → Pieces
with_element count before = record before { elements = before.elements ++ count ∷ [] }

-- a step of reading that goes on from what was found
abbrev pub Onto : Type 0
Onto = Pieces → Reader Pieces

-- so many of one kind, one after another
unfoldable pub repeated : Onto → ℕ → Onto
repeated step zero before = pure before
repeated step (suc n) before = do
  found ← step before
  repeated step n found

-- a position (06-103r4, 8.2.3: Point)
unfoldable pub position_onto : Bool → Onto
position_onto is_little before = pair is_little >>= λ p. pure (with_position p before)

-- a line or ring, with the number of its positions before it (06-103r4, 8.2.3: LinearRing)
unfoldable pub line_onto : Bool → Onto
line_onto is_little before = word is_little >>= λ n. repeated (position_onto is_little) n (with_line n before)

-- ---- elements
-- a point: its position, or none where both of its doubles are no number (06-103r4, 8.2.3: Point; empty ones: this project's choice, as GEOS writes them)
unfoldable pub point_content : Bool → Onto
point_content is_little before = pair is_little >>= λ p. pure (if is_empty_pair p then with_element 0 before else with_position p (with_line 1 (with_element 1 before)))

-- a line: its positions, or none (06-103r4, 8.2.3: LineString)
unfoldable pub line_content : Bool → Onto
line_content is_little before = word is_little >>= λ n. if n == 0 then pure (with_element 0 before) else repeated (position_onto is_little) n (with_line n (with_element 1 before))

-- a polygon: its rings, with their number before them (06-103r4, 8.2.3: Polygon)
unfoldable pub polygon_content : Bool → Onto
polygon_content is_little before = word is_little >>= λ n. repeated (line_onto is_little) n (with_element n before)

-- what comes after the head of an element
unfoldable pub content : Element → Bool → Onto
content elements.Point is_little = point_content is_little
content elements.LineString is_little = line_content is_little
content elements.Polygon is_little = polygon_content is_little

-- an element with its head (06-103r4, 8.2.3: WKBPoint, WKBLineString and WKBPolygon)
unfoldable pub member : Element → Onto
member of before = element of >>= λ is_little. content of is_little before

-- elements, with their number before them (06-103r4, 8.2.3: numWkbPoints, numWkbLineStrings and numWkbPolygons)
unfoldable pub members : Element → Bool → Onto
members of is_little before = word is_little >>= λ n. repeated (member of) n before

-- ---- geometries
-- what comes after the head of each type (06-103r4, 8.2.3: WKBGeometry)
unfoldable pub body_pieces : Bool → GeometryType → Onto
body_pieces is_little types.Point = content elements.Point is_little
body_pieces is_little types.MultiPoint = members elements.Point is_little
body_pieces is_little types.LineString = content elements.LineString is_little
body_pieces is_little types.MultiLineString = members elements.LineString is_little
body_pieces is_little types.Polygon = content elements.Polygon is_little
body_pieces is_little types.MultiPolygon = members elements.Polygon is_little

-- the type and the pieces, up to the end of the bytes (06-103r4, 8.2.3: WKBGeometry)
unfoldable pub whole_pieces : Reader (GeometryType × Pieces)
whole_pieces = do
  found ← head
  pieces ← body_pieces found.is_little found.shape nothing
  end
  pure (found.shape, pieces)

-- what was found, or the refusal
abbrev pub found_in : {A : Type 0} → Result (A × State) Refusal → Result A Refusal
found_in (Ok found) = Ok found.0
found_in (Err refusal) = Err refusal

-- the type and the pieces of bytes, or the first reason why they have none (06-103r4, 8.2; which reasons there are, and their places: this project's choice)
unfoldable pub pieces_in : List ℕ → Result (GeometryType × Pieces) Refusal
pieces_in text = found_in (whole_pieces (start text))

-- the number of a type that bytes begin with, behind the order of bytes; 0 where there is none (06-103r4, 8.2.3: byteOrder and wkbType)
abbrev pub code_or_none : Result ℕ Refusal → ℕ
code_or_none (Ok code) = code
code_or_none (Err refusal) = 0

unfoldable pub code_read : Reader ℕ
code_read = byte >>= λ order. word (order == 1)

unfoldable pub code_in : List ℕ → ℕ
code_in text = code_or_none (found_in (code_read (start text)))
