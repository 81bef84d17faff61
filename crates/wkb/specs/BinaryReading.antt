-- Reading well-known binary from left to right: the geometry that its bytes are, or the first reason why they are none.
use Rattle.std.specs.Prelude.{ℕ, zero, suc, ◌+◌, ◌-◌, ◌/◌, ◌%◌, ◌^◌, ◌==◌, Bool, true, false, ◌&&◌, ◌||◌, cond, List, [], ◌∷◌, length, take, drop, Option, Some, None, Result, Ok, Err, nat_lt, nat_le, if◌then◌else◌, max, unsigned_abs}
use Rattle.std.specs.Int.{Width, w32, w64, from_le_bytes, from_be_bytes}
use Rattle.geometry_model.specs.Points.{Position}
use Rattle.geometry_model.specs.Geometries.{Geometry, Point, MultiPoint, LineString, MultiLineString, Polygon, MultiPolygon}
use Rattle.geometry_model.specs.WellKnownText.{coordinate_limit, position_limit, part_limit}
use Rattle.geometry_model.specs.declared.shapes.GeometryType.{GeometryType}
use Rattle.geometry_model.specs.declared.shapes.GeometryType.TheVariants as types
use Rattle.wkb.specs.Doubles.{value, is_finite, is_nan}
use Rattle.wkb.specs.Grids.{nearest, is_on, ticks_away}
use Rattle.wkb.specs.declared.grids.Grid.{Grid}
use Rattle.wkb.specs.declared.rounding.Rounding.{Rounding}
use Rattle.wkb.specs.declared.rounding.Tally.{Tally}
use Rattle.wkt.specs.ReadingSteps.{repeats}
use Rattle.wkb.specs.declared.heads.Head.{Head}
use Rattle.wkb.specs.declared.elements.Element.{Element}
use Rattle.wkb.specs.declared.elements.Element.TheVariants as elements
use Rattle.wkb.specs.declared.reading.Binary.{Binary}
use Rattle.wkb.specs.declared.pairs.Pair.{Pair}
use Rattle.wkb.specs.declared.binary_fault.Refusal.{Refusal}
use Rattle.wkb.specs.declared.binary_fault.Refusal.TheVariants.{Syntax, OffGrid, OutOfRange, TooLong, UnknownType, EmptyPart}

-- what is still to be read, at which byte it begins, how many positions are kept, rings or lines, and polygons read, and what rounding did
pub record State : Type 0 where
  pub left : List ℕ
  pub at : ℕ
  pub kept : ℕ
  pub parts : ℕ
  pub polygons : ℕ
  pub tally : Tally

-- a step of reading: what it found and what it left, or a refusal
abbrev pub Reader : Type 0 → Type 0
Reader A = State → Result (A × State) Refusal

-- the next step, which knows what was found; or the refusal
abbrev pub and_then : {A B : Type 0} → Result (A × State) Refusal → (A → Reader B) → Result (B × State) Refusal
and_then (Ok found) next = next found.0 found.1
and_then (Err refusal) next = Err refusal

-- one step, and then the step that the second argument makes of what it found
infixl 10 ◌>>=◌
abbrev pub ◌>>=◌ : {A B : Type 0} → Reader A → (A → Reader B) → Reader B
(step >>= next) i = and_then (step i) next

-- one step and then another
infixl 10 ◌>>◌
abbrev pub ◌>>◌ : {A B : Type 0} → Reader A → Reader B → Reader B
(step >> next) i = and_then (step i) (λ _. next)

-- finds this value and reads nothing
abbrev pub pure : {A : Type 0} → A → Reader A
pure x i = Ok (x, i)

-- finds the place of the next byte, and reads nothing
abbrev pub place : Reader ℕ
place i = Ok (i.at, i)

-- a refusal
abbrev pub refuse : {A : Type 0} → Refusal → Reader A
refuse refusal i = Err refusal

-- what is left after the next n bytes
abbrev pub after : ℕ → State → State
after n i = record i { left = drop n i.left; at = i.at + n }

-- the next n bytes; W1 at the end where fewer are left
abbrev pub bytes : ℕ → Reader (List ℕ)
bytes n i = if nat_le n (length i.left) then Ok (take n i.left, after n i) else Err (Syntax (i.at + length i.left))

-- the number that bytes are: least first, or most first (06-103r4, 8.2.3: wkbNDR and wkbXDR)
abbrev pub number_of : Bool → Width → List ℕ → ℕ
number_of true width bytes = from_le_bytes width bytes
number_of false width bytes = from_be_bytes width bytes

-- four bytes as a number (06-103r4, 8.2.2: uint32)
unfoldable pub word : Bool → Reader ℕ
word is_little = bytes 4 >>= λ found. pure (number_of is_little w32 found)

-- eight bytes as the bits of a double (06-103r4, 8.2.2: double)
unfoldable pub double : Bool → Reader ℕ
double is_little = bytes 8 >>= λ found. pure (number_of is_little w64 found)

-- ---- heads
-- the type that a number names (06-103r4, 8.2.3: wkbType)
abbrev pub type_of_code : ℕ → Option GeometryType
type_of_code code =
    if code == 1 then Some types.Point
    else if code == 2 then Some types.LineString
    else if code == 3 then Some types.Polygon
    else if code == 4 then Some types.MultiPoint
    else if code == 5 then Some types.MultiLineString
    else if code == 6 then Some types.MultiPolygon
    else None

-- whether a type has the flag that says that the number of a reference system comes after it (this project's choice, as PostGIS and GEOS write it)
abbrev pub has_system : ℕ → Bool
has_system code = code / 2 ^ 29 % 2 == 1

-- the type without that flag
abbrev pub without_flag : ℕ → ℕ
without_flag code = if has_system code then code - 2 ^ 29 else code

-- the type of a head that begins at this byte: one of the library's, without a Z or an M
abbrev pub known_type : ℕ → Option GeometryType → Reader GeometryType
known_type at (Some shape) = pure shape
known_type at None = refuse (UnknownType at)

-- the number of a reference system, if one comes
unfoldable pub system : Bool → ℕ → Reader ℕ
system is_little code = if has_system code then word is_little else pure 0

-- what comes after the order of the bytes of a head that begins at this byte
unfoldable pub typed_head : ℕ → Bool → Reader Head
typed_head at is_little = do
  code ← word is_little
  number ← system is_little code
  shape ← known_type at (type_of_code (without_flag code))
  pure (record { is_little = is_little; shape = shape; system = number })

-- one byte
abbrev pub byte : Reader ℕ
byte i = elim i.left [ [] ↦ Err (Syntax i.at) | b ∷ rest ↦ Ok (b, record i { left = rest; at = i.at + 1 }) ]

-- a head: the order of bytes, 1 where the least comes first and 0 where the most does, and the type (06-103r4, 8.2.3: byteOrder and wkbType)
unfoldable pub head : Reader Head
head = do
  at ← place
  order ← byte
  if nat_lt 1 order then refuse (Syntax at) else typed_head at (order == 1)

-- ---- positions
-- the two doubles of a position (06-103r4, 8.2.3: Point)
unfoldable pub pair : Bool → Reader Pair
pair is_little = do
  x ← double is_little
  y ← double is_little
  pure (record { x = x; y = y })

-- whether neither is a number, as an empty point is written (this project's choice, as GEOS writes it)
abbrev pub is_empty_pair : Pair → Bool
is_empty_pair pair = is_nan pair.x && is_nan pair.y

-- whether both are numbers, and neither infinite nor a NaN
abbrev pub are_finite : Pair → Bool
are_finite pair = is_finite pair.x && is_finite pair.y

-- the position of the grid that is nearest to two doubles
abbrev pub position_at : Grid → Pair → Position
position_at grid pair = record { x = nearest grid.x (value pair.x); y = nearest grid.y (value pair.y) }

-- whether both coordinates are within the limit
abbrev pub is_within : Position → Bool
is_within p = nat_le (unsigned_abs p.x) coordinate_limit && nat_le (unsigned_abs p.y) coordinate_limit

-- whether two doubles are exactly on the grid
abbrev pub is_on_grid : Grid → Pair → Bool
is_on_grid grid pair = is_on grid.x (value pair.x) && is_on grid.y (value pair.y)

-- by how many ticks the further one of two doubles is moved
abbrev pub further : Grid → Pair → ℕ
further grid pair = max (ticks_away grid.x (value pair.x)) (ticks_away grid.y (value pair.y))

-- one position more, which is moved by so many ticks
abbrev pub counted : ℕ → Tally → Tally
counted by t = record { positions = t.positions + 1; moved = t.moved + cond (by == 0) 0 1; greatest = max t.greatest by }

-- counts a position that is moved by so many ticks
abbrev pub count : ℕ → Reader Bool
count by i = Ok (true, record i { tally = counted by i.tally })

-- the position at two doubles: W3 past the limit, then W2 where the grid moves no position and this one isn't on it, both with the number of positions before it
unfoldable pub placed : Grid → Pair → Reader Position
placed grid pair i = if is_within (position_at grid pair)
    then (if grid.moves || is_on_grid grid pair then and_then (count (further grid pair) i) (λ _. pure (position_at grid pair)) else Err (OffGrid i.tally.positions))
    else Err (OutOfRange i.tally.positions)

-- the position at two doubles, the first of which begins at this byte: W1 there where one of them is infinite or no number
unfoldable pub located : Grid → ℕ → Pair → Reader Position
located grid at pair = if are_finite pair then placed grid pair else refuse (Syntax at)

-- a position
unfoldable pub position : Grid → Bool → Reader Position
position grid is_little = do
  at ← place
  found ← pair is_little
  located grid at found

-- counts a position that is kept; W4 past the limit
abbrev pub keep : Reader Bool
keep i = if i.kept == position_limit then Err TooLong else Ok (true, record i { kept = i.kept + 1 })

-- a position is kept unless it repeats the one before it on its line or ring, if there is one (this project's choice, as in well-known text)
unfoldable pub settle : Option Position → Position → Reader Bool
settle last p = if repeats last p then pure true else keep

-- so many positions of a line or ring, behind this one if there is one, without repeats
unfoldable pub positions : Grid → Bool → ℕ → Option Position → Reader (List Position)
positions grid is_little zero last = pure []
positions grid is_little (suc n) last = do
  p ← position grid is_little
  settle last p
  more ← positions grid is_little n (Some p)
  pure (cond (repeats last p) more (p ∷ more))

-- the positions of a LINESTRING, with their number before them (06-103r4, 8.2.3: LineString)
unfoldable pub line : Grid → Bool → Reader (List Position)
line grid is_little = do
  n ← word is_little
  positions grid is_little n None

-- counts a ring or a line of several; W4 past the limit
abbrev pub take_part : Reader Bool
take_part i = if i.parts == part_limit then Err TooLong else Ok (true, record i { parts = i.parts + 1 })

-- a ring, or a line of several, which has positions (06-103r4, 8.2.3: LinearRing)
unfoldable pub part : Grid → Bool → Reader (List Position)
part grid is_little = do
  at ← place
  n ← word is_little
  take_part
  if n == 0 then refuse (EmptyPart at) else positions grid is_little n None

-- so many of one kind
unfoldable pub several : {A : Type 0} → Reader A → ℕ → Reader (List A)
several step zero = pure []
several step (suc n) = do
  x ← step
  more ← several step n
  pure (x ∷ more)

-- the rings of a POLYGON, with their number before them (06-103r4, 8.2.3: Polygon)
unfoldable pub rings : Grid → Bool → Reader (List (List Position))
rings grid is_little = do
  n ← word is_little
  several (part grid is_little) n

-- ---- elements
-- whether a type is that of the elements of a MULTIPOINT, a MULTILINESTRING or a MULTIPOLYGON (06-103r4, 8.2.3)
abbrev pub is_point : GeometryType → Bool
is_point types.Point = true
is_point types.MultiPoint = false
is_point types.LineString = false
is_point types.MultiLineString = false
is_point types.Polygon = false
is_point types.MultiPolygon = false

abbrev pub is_line_string : GeometryType → Bool
is_line_string types.Point = false
is_line_string types.MultiPoint = false
is_line_string types.LineString = true
is_line_string types.MultiLineString = false
is_line_string types.Polygon = false
is_line_string types.MultiPolygon = false

abbrev pub is_polygon : GeometryType → Bool
is_polygon types.Point = false
is_polygon types.MultiPoint = false
is_polygon types.LineString = false
is_polygon types.MultiLineString = false
is_polygon types.Polygon = true
is_polygon types.MultiPolygon = false

abbrev pub is_of : Element → GeometryType → Bool
is_of elements.Point shape = is_point shape
is_of elements.LineString shape = is_line_string shape
is_of elements.Polygon shape = is_polygon shape

-- the head of an element, which has to have its type: W1 where it has another; the order of its bytes
unfoldable pub element : Element → Reader Bool
element of = do
  at ← place
  found ← head
  if is_of of found.shape then pure found.is_little else refuse (Syntax at)

-- a position that is kept
abbrev pub kept_position : Grid → ℕ → Pair → Reader Position
kept_position grid at pair = do
  p ← located grid at pair
  keep
  pure p

-- a point of a MULTIPOINT, which isn't empty (06-103r4, 8.2.3: WKBPoint)
unfoldable pub point : Grid → Reader Position
point grid = do
  start ← place
  is_little ← element elements.Point
  at ← place
  found ← pair is_little
  if is_empty_pair found then refuse (EmptyPart start) else kept_position grid at found

-- a line of a MULTILINESTRING, which isn't empty (06-103r4, 8.2.3: WKBLineString)
unfoldable pub line_element : Grid → Reader (List Position)
line_element grid = element elements.LineString >>= part grid

-- counts a polygon of a MULTIPOLYGON; W4 past the limit
abbrev pub take_polygon : Reader Bool
take_polygon i = if i.polygons == part_limit then Err TooLong else Ok (true, record i { polygons = i.polygons + 1 })

-- the rings of a polygon that isn't empty
unfoldable pub some_rings : Grid → Bool → Reader (List (List Position))
some_rings grid is_little = do
  at ← place
  n ← word is_little
  if n == 0 then refuse (EmptyPart at) else several (part grid is_little) n

-- a polygon of a MULTIPOLYGON, which isn't empty (06-103r4, 8.2.3: WKBPolygon)
unfoldable pub polygon : Grid → Reader (List (List Position))
polygon grid = do
  is_little ← element elements.Polygon
  take_polygon
  some_rings grid is_little

-- ---- geometries
-- the position of a POINT, or none where it is empty (06-103r4, 8.2.3: WKBPoint; empty ones: this project's choice)
unfoldable pub lone : Grid → Bool → Reader (Option Position)
lone grid is_little = do
  at ← place
  found ← pair is_little
  if is_empty_pair found then pure None else (kept_position grid at found >>= λ p. pure (Some p))

-- elements, with their number before them (06-103r4, 8.2.3: numWkbPoints, numWkbLineStrings and numWkbPolygons)
unfoldable pub counted_elements : {A : Type 0} → Reader A → Bool → Reader (List A)
counted_elements step is_little = do
  n ← word is_little
  several step n

-- what comes after the head of each type (06-103r4, 8.2.3: WKBGeometry)
abbrev pub point_body : Grid → Bool → Reader Geometry
point_body grid is_little = lone grid is_little >>= λ p. pure (Point p)

abbrev pub multi_point_body : Grid → Bool → Reader Geometry
multi_point_body grid is_little = counted_elements (point grid) is_little >>= λ ps. pure (MultiPoint ps)

abbrev pub line_string_body : Grid → Bool → Reader Geometry
line_string_body grid is_little = line grid is_little >>= λ ps. pure (LineString ps)

abbrev pub multi_line_string_body : Grid → Bool → Reader Geometry
multi_line_string_body grid is_little = counted_elements (line_element grid) is_little >>= λ ls. pure (MultiLineString ls)

abbrev pub polygon_body : Grid → Bool → Reader Geometry
polygon_body grid is_little = rings grid is_little >>= λ rs. pure (Polygon rs)

abbrev pub multi_polygon_body : Grid → Bool → Reader Geometry
multi_polygon_body grid is_little = counted_elements (polygon grid) is_little >>= λ es. pure (MultiPolygon es)

unfoldable pub body : Grid → Bool → GeometryType → Reader Geometry
body grid is_little types.Point = point_body grid is_little
body grid is_little types.MultiPoint = multi_point_body grid is_little
body grid is_little types.LineString = line_string_body grid is_little
body grid is_little types.MultiLineString = multi_line_string_body grid is_little
body grid is_little types.Polygon = polygon_body grid is_little
body grid is_little types.MultiPolygon = multi_polygon_body grid is_little

-- the end of the bytes, which has to be here
abbrev pub end : Reader Bool
end i = if length i.left == 0 then Ok (true, i) else Err (Syntax i.at)

-- a geometry and the number of its reference system, up to the end of the bytes (06-103r4, 8.2.3: WKBGeometry)
unfoldable pub whole : Grid → Reader (Geometry × ℕ)
whole grid = do
  found ← head
  g ← body grid found.is_little found.shape
  end
  pure (g, found.system)

-- before the first byte
abbrev pub start : List ℕ → State
start text = record { left = text; at = 0; kept = 0; parts = 0; polygons = 0; tally = record { positions = 0; moved = 0; greatest = 0 } }

-- what rounding did, by what was counted: positions that aren't kept were merged
abbrev pub rounding_of : State → Rounding
rounding_of i = record { positions = i.tally.positions; moved = i.tally.moved; merged = i.tally.positions - i.kept; greatest = i.tally.greatest }

-- what was found, or the refusal
abbrev pub outcome : Result ((Geometry × ℕ) × State) Refusal → Result Binary Refusal
outcome (Ok found) = Ok (record { geometry = found.0.0; system = found.0.1; rounding = rounding_of found.1 })
outcome (Err refusal) = Err refusal

-- the geometry that bytes are on a grid, or the first reason why they are none (06-103r4, 8.2; which reasons there are, and their places: this project's choice)
unfoldable pub read_binary : Grid → List ℕ → Result Binary Refusal
read_binary grid text = outcome (whole grid (start text))
