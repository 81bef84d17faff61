-- What the functions return that read well-known text with a cursor. The readers here follow the steps of the code; they return
-- what the readers of `TextReading` do.
use Rattle.std.specs.Prelude.{◌≡◌, ℕ, ◌-◌, ◌==◌, Bool, true, false, if◌then◌else◌, length, codes, List, [], ◌∷◌, map, Option, Some, None, Result, Ok, Err}
use Rattle.std.specs.Char.{is_ascii_alphabetic, is_ascii_digit}
use Rattle.std.specs.List.{flat_map}
use Rattle.std.specs.Str.{str_eq_ignore_ascii_case}
use Rattle.geometry_model.specs.Points.{Position}
use Rattle.geometry_model.specs.Geometries.{Geometry, Point, MultiPoint, LineString, MultiLineString, Polygon, MultiPolygon, joined_rings}
use Rattle.geometry_model.specs.Locations.{last_after}
use Rattle.geometry_model.specs.WellKnownText.{is_white, same_position, without_repeats, geometry_of, position_limit, part_limit}
use Rattle.geometry_model.specs.TextReading.{Input, Reader, ◌>>=◌, ◌>>◌, pure, place, run, refuse, too_long, expect, padded, enclosed, position, point, separated, parts, first}
use Rattle.geometry_model.specs.TextReading as spec
use Rattle.geometry_model.specs.declared.text_faults.TextFault.{TextFault}
use Rattle.wkt.specs.TextFaults.{text_fault}
use Rattle.wkt.specs.declared.cursor.ByteClass.{ByteClass}
use Rattle.wkt.specs.declared.cursor.ByteClass.TheVariants as classes
use Rattle.wkt.specs.declared.list_reader.Room.{Room}
use Rattle.wkt.specs.declared.wkt_fault.WktFault.{WktFault}
use Rattle.wkt.specs.declared.wkt_fault.WktFault.TheVariants as faults

-- the test of a class of bytes
abbrev pub of_class : ByteClass → ℕ → Bool
of_class classes.White = is_white
of_class classes.Digit = is_ascii_digit
of_class classes.Letter = is_ascii_alphabetic

-- the function returns what the reader does: its value, seen through `view`, and the input that is left, or the fault
abbrev pub ReadsAs : {X A : Type 0} → (X → A) → Result (A × Input) TextFault → Result X TextFault → Input → Type 0
ReadsAs view outcome (Ok x) after = outcome ≡ Ok (view x, after)
ReadsAs view outcome (Err fault) after = outcome ≡ Err fault

-- the same for a function that may run out of memory instead
abbrev pub ReadsInMemory : {X A : Type 0} → (X → A) → Result (A × Input) TextFault → Result X WktFault → Input → Type 0
ReadsInMemory view outcome (Ok x) after = outcome ≡ Ok (view x, after)
ReadsInMemory view outcome (Err e) after = (fault : TextFault) → text_fault e ≡ Some fault → outcome ≡ Err fault

-- whether the word EMPTY comes here; another word is W1 (06-103r4, 7.2.2: empty set)
unfoldable pub empty_word : Reader Bool
empty_word = do
  run is_white
  at ← place
  word ← run is_ascii_alphabetic
  if length word == 0 then pure false else (if str_eq_ignore_ascii_case word (codes "EMPTY") then pure true else refuse at)

-- nothing where the word is EMPTY, and otherwise what is in parentheses (06-103r4, 7.2.2: empty set)
abbrev pub body : {A : Type 0} → Reader (List A) → Reader (List A)
body inner = empty_word >>= λ empty. if empty then pure [] else enclosed inner

-- whether a position equals the one before it, if there is one
abbrev pub repeats : Option Position → Position → Bool
repeats None p = false
repeats (Some last) p = same_position p last

-- the last of some positions
abbrev pub last_of : List Position → Option Position
last_of [] = None
last_of (p ∷ more) = Some (last_after p more)

-- the positions of a line or ring without repeats, where this many may still come; and how many may come after it
abbrev pub line_positions : ℕ → Reader (List Position × ℕ)
line_positions room = separated position room >>= λ ps. pure (without_repeats ps, room - length ps)

-- the room that these rings leave
abbrev pub left_of : List (List Position) → Room → Room
left_of rings room = record { parts = room.parts - length rings; positions = room.positions - length (flat_map (λ ring. ring) rings) }

-- a ring or element, and the room that it leaves; one too many is refused after its parenthesis
unfoldable pub ring : Room → Reader (List Position × Room)
ring room = do
  expect 40
  found ← if room.parts == 0 then too_long else line_positions room.positions
  expect 41
  pure (found.0, record { parts = room.parts - 1; positions = found.1 })

-- rings or elements, and the room that they leave
abbrev pub rings : Room → Reader (List (List Position) × Room)
rings room = parts room.parts room.positions >>= λ ls. pure (map without_repeats ls, left_of ls room)

-- polygons, and the room that they leave
abbrev pub polygons : Room → Reader (List (List (List Position)) × Room)
polygons room = spec.polygons room.parts room.parts room.positions >>= λ es. pure (map (map without_repeats) es, left_of (joined_rings es) room)

-- the room of a whole geometry
abbrev pub whole_room : Room
whole_room = record { parts = part_limit; positions = position_limit }

-- the reader without the room that is left
abbrev pub without_room : {A B : Type 0} → Reader (A × B) → Reader A
without_room step = step >>= λ found. pure found.0

-- what comes after the name of each type, lines and rings without repeats (06-103r4, 7.2.2: the tagged texts)
abbrev pub point_body : Reader Geometry
point_body = body (padded (position position_limit) >>= λ p. pure (p ∷ [])) >>= λ ps. pure (Point (first ps))

abbrev pub multi_point_body : Reader Geometry
multi_point_body = body (separated point position_limit) >>= λ ps. pure (MultiPoint ps)

abbrev pub line_string_body : Reader Geometry
line_string_body = body (without_room (line_positions position_limit)) >>= λ ps. pure (LineString ps)

abbrev pub multi_line_string_body : Reader Geometry
multi_line_string_body = body (without_room (rings whole_room)) >>= λ ls. pure (MultiLineString ls)

abbrev pub polygon_body : Reader Geometry
polygon_body = body (without_room (rings whole_room)) >>= λ ls. pure (Polygon ls)

abbrev pub multi_polygon_body : Reader Geometry
multi_polygon_body = body (without_room (polygons whole_room)) >>= λ es. pure (MultiPolygon es)

-- the reader with the geometry of what is written: lines and rings without repeats
abbrev pub meant : Reader Geometry → Reader Geometry
meant step = step >>= λ written. pure (geometry_of written)

-- a text was read as this geometry, or memory ran out
abbrev pub IsReadAs : Result Geometry WktFault → Geometry → Type 0
IsReadAs (Ok read) g = read ≡ g
IsReadAs (Err e) g = e ≡ faults.OutOfMemory
