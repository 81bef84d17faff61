-- Reading well-known text from left to right: the geometry that it spells, or the first fault that is met.
use Rattle.std.specs.Prelude.{ℕ, zero, suc, ◌+◌, ◌-◌, ◌==◌, ℤ, Bool, true, false, List, [], ◌∷◌, length, take, drop, Option, Some, None, Result, Ok, Err, nat_lt, codes, if◌then◌else◌}
use Rattle.std.specs.List.{prefix_len, flat_map}
use Rattle.std.specs.Char.{is_ascii_alphabetic, is_ascii_digit}
use Rattle.std.specs.Str.{str_eq_ignore_ascii_case}
use Rattle.std.specs.Str.Parse.{digits_value}
use Rattle.geometry_model.specs.Points.{Position}
use Rattle.geometry_model.specs.Geometries.{Geometry, Point, MultiPoint, LineString, MultiLineString, Polygon, MultiPolygon}
pub use Rattle.geometry_model.specs.WellKnownText.{begins_with}
use Rattle.geometry_model.specs.WellKnownText.{coordinate_limit, position_limit, part_limit, is_white, is_whole, signed, geometry_of}
use Rattle.geometry_model.specs.declared.text_faults.TextFault.{TextFault}
use Rattle.geometry_model.specs.declared.text_faults.TextFault.TheVariants.{Syntax, OffGrid, OutOfRange, TooLong}

-- what is still to be read, and at which byte of the text it begins
pub record Input : Type 0 where
  pub left : List ℕ
  pub at : ℕ

-- a step of reading: what it found and what it left, or a fault
abbrev pub Reader : Type 0 → Type 0
Reader A = Input → Result (A × Input) TextFault

-- the next step, which knows what was found; or the fault
abbrev pub and_then : {A B : Type 0} → Result (A × Input) TextFault → (A → Reader B) → Result (B × Input) TextFault
and_then (Ok found) next = next found.0 found.1
and_then (Err fault) next = Err fault

-- one step, and then the step that the second argument makes of what it found
infixl 10 ◌>>=◌
abbrev pub ◌>>=◌ : {A B : Type 0} → Reader A → (A → Reader B) → Reader B
(step >>= next) i = and_then (step i) next

-- one step and then another
infixl 10 ◌>>◌
abbrev pub ◌>>◌ : {A B : Type 0} → Reader A → Reader B → Reader B
(step >> next) i = and_then (step i) (λ _. next)

-- finds this value and reads nothing
abbrev pub pure : {A : Type 0} → A → Reader A
pure x i = Ok (x, i)

-- what is left after the next n bytes
abbrev pub after : ℕ → Input → Input
after n i = record { left = drop n i.left; at = i.at + n }

-- finds whether the next byte passes the test, and reads nothing
abbrev pub sees : (ℕ → Bool) → Reader Bool
sees test i = Ok (begins_with test i.left, i)

-- finds the place of the next byte, and reads nothing
abbrev pub place : Reader ℕ
place i = Ok (i.at, i)

-- the fault W1, not well-known text, at this byte
abbrev pub refuse : {A : Type 0} → ℕ → Reader A
refuse at i = Err (Syntax at)

-- the fault W4, too many positions or parts
abbrev pub too_long : {A : Type 0} → Reader A
too_long i = Err TooLong

-- reads the bytes up to the first that doesn't pass the test
abbrev pub run : (ℕ → Bool) → Reader (List ℕ)
run test i = Ok (take (prefix_len test i.left) i.left, after (prefix_len test i.left) i)

-- reads the byte if it comes next, and finds whether it does
abbrev pub eat : ℕ → Reader Bool
eat c i = Ok (begins_with (λ b. b == c) i.left, if begins_with (λ b. b == c) i.left then after 1 i else i)

-- reads the byte, or refuses if another comes next
abbrev pub expect : ℕ → Reader Bool
expect c = do
  at ← place
  found ← eat c
  if found then pure true else refuse at

-- the step with white space or none on both sides
abbrev pub padded : {A : Type 0} → Reader A → Reader A
padded step = do
  run is_white
  x ← step
  run is_white
  pure x

-- the step in parentheses
abbrev pub enclosed : {A : Type 0} → Reader A → Reader A
enclosed step = do
  expect 40
  x ← step
  expect 41
  pure x

-- a sign or none: whether it is a minus (06-103r4, 7.2.2: sign)
unfoldable pub sign : Reader Bool
sign = do
  minus ← eat 45
  if minus then pure true else (eat 43 >> pure false)

-- the digits after a point, or none
unfoldable pub fraction : Reader (List ℕ)
fraction = do
  has_point ← eat 46
  if has_point then run is_ascii_digit else pure []

-- a number as it is written, and the byte where it begins
pub record FoundNumber : Type 0 where
  pub at : ℕ
  pub minus : Bool
  pub whole : List ℕ
  pub fraction : List ℕ

-- the longest number that begins here; W1 where none does (06-103r4, 7.2.2: signed numeric literal; W1: this project's choice)
unfoldable pub numeral : Reader FoundNumber
numeral = do
  at ← place
  minus ← sign
  whole ← run is_ascii_digit
  digits ← fraction
  if length whole + length digits == 0 then refuse at else pure (record { at = at; minus = minus; whole = whole; fraction = digits })

-- the whole number that is written: W2 if it isn't whole, else W3 if it is past the limit
unfoldable pub coordinate : FoundNumber → Reader ℤ
coordinate n i = if is_whole n.fraction
    then (if nat_lt coordinate_limit (digits_value 10 n.whole) then Err (OutOfRange n.at) else Ok (signed n.minus n.whole, i))
    else Err (OffGrid n.at)

-- white space of one byte or more, or W1
unfoldable pub space : Reader (List ℕ)
space = do
  at ← place
  white ← run is_white
  if length white == 0 then refuse at else pure white

-- a position, where `room` is how many may still come; if none may, W4 comes before W2 and W3 of its first number
unfoldable pub position : ℕ → Reader Position
position room = do
  first ← numeral
  x ← if room == 0 then too_long else coordinate first
  space
  second ← numeral
  y ← coordinate second
  pure (record { x = x; y = y })

-- a position of a MULTIPOINT (06-103r4, 7.2.2: point text)
unfoldable pub point : ℕ → Reader Position
point room = do
  open_comes ← sees (λ c. c == 40)
  if open_comes then enclosed (padded (position room)) else position room

-- one or more with commas between, where `room` is how many may still come
unfoldable pub separated : {A : Type 0} → (ℕ → Reader A) → ℕ → Reader (List A)
separated item zero = padded (item zero) >>= λ x. pure (x ∷ [])
separated item (suc room) = do
  x ← padded (item (suc room))
  goes_on ← eat 44
  if goes_on then (separated item room >>= λ more. pure (x ∷ more)) else pure (x ∷ [])

-- the positions of a line or ring (06-103r4, 7.2.2: linestring text)
unfoldable pub line : ℕ → Reader (List Position)
line room = enclosed (separated position room)

-- elements or rings, where `count` parts and `room` positions may still come
unfoldable pub parts : ℕ → ℕ → Reader (List (List Position))
parts zero room = padded (expect 40 >> too_long)
parts (suc count) room = do
  x ← padded (line room)
  goes_on ← eat 44
  if goes_on then (parts count (room - length x) >>= λ more. pure (x ∷ more)) else pure (x ∷ [])

-- the rings of a polygon, where `count` parts and `room` positions may still come (06-103r4, 7.2.2: polygon text)
unfoldable pub polygon : ℕ → ℕ → Reader (List (List Position))
polygon count room = enclosed (parts count room)

-- polygons, where `count` parts and `room` positions may still come: each polygon leaves what it doesn't use to the next. It has
-- a ring at least, so as many turns as parts are enough
unfoldable pub polygons : ℕ → ℕ → ℕ → Reader (List (List (List Position)))
polygons zero count room = padded (polygon count room) >>= λ x. pure (x ∷ [])
polygons (suc turns) count room = do
  x ← padded (polygon count room)
  goes_on ← eat 44
  if goes_on then (polygons turns (count - length x) (room - length (flat_map (λ ring. ring) x)) >>= λ more. pure (x ∷ more)) else pure (x ∷ [])

-- the word EMPTY, or what is in parentheses (06-103r4, 7.2.2: empty set)
unfoldable pub body : {A : Type 0} → Reader (List A) → Reader (List A)
body inner = do
  run is_white
  at ← place
  word ← run is_ascii_alphabetic
  if length word == 0 then enclosed inner else (if str_eq_ignore_ascii_case word (codes "EMPTY") then pure [] else refuse at)

-- the positions after a type's name
abbrev pub positions : (ℕ → Reader Position) → Reader (List Position)
positions item = body (separated item position_limit)

-- the elements or rings after a type's name
abbrev pub lists : Reader (List (List Position))
lists = body (parts part_limit position_limit)

-- the polygons after a type's name
abbrev pub nested_lists : Reader (List (List (List Position)))
nested_lists = body (polygons part_limit part_limit position_limit)

-- the one position of a POINT
abbrev pub lone : Reader (List Position)
lone = body (padded (position position_limit) >>= λ p. pure (p ∷ []))

-- the first of the list, if there is one
abbrev pub first : List Position → Option Position
first [] = None
first (p ∷ ps) = Some p

-- what comes after a type's name; W1 at the byte where the name begins if it is no type's
unfoldable pub typed : ℕ → List ℕ → Reader Geometry
typed at name =
    if str_eq_ignore_ascii_case name (codes "POINT") then (lone >>= λ ps. pure (Point (first ps)))
    else if str_eq_ignore_ascii_case name (codes "MULTIPOINT") then (positions point >>= λ ps. pure (MultiPoint ps))
    else if str_eq_ignore_ascii_case name (codes "LINESTRING") then (positions position >>= λ ps. pure (LineString ps))
    else if str_eq_ignore_ascii_case name (codes "MULTILINESTRING") then (lists >>= λ ls. pure (MultiLineString ls))
    else if str_eq_ignore_ascii_case name (codes "POLYGON") then (lists >>= λ ls. pure (Polygon ls))
    else if str_eq_ignore_ascii_case name (codes "MULTIPOLYGON") then (nested_lists >>= λ es. pure (MultiPolygon es))
    else refuse at

-- a type's name and what comes after it (06-103r4, 7.2.2: tagged text)
unfoldable pub tagged : Reader Geometry
tagged = do
  at ← place
  name ← run is_ascii_alphabetic
  typed at name

-- the end of the text, which has to be here
abbrev pub end : Reader Bool
end i = if length i.left == 0 then Ok (true, i) else Err (Syntax i.at)

-- a whole text, with its positions as they are written (06-103r4, 7.2.2: well-known text representation)
unfoldable pub whole : Reader Geometry
whole = do
  g ← padded tagged
  end
  pure g

-- the geometry that was found, or the fault
abbrev pub outcome : Result (Geometry × Input) TextFault → Result Geometry TextFault
outcome (Ok found) = Ok (geometry_of found.0)
outcome (Err fault) = Err fault

-- the geometry that a text spells, or its first fault (06-103r4, 7.2; which faults there are, and their places: this project's choice)
unfoldable pub read_text : List ℕ → Result Geometry TextFault
read_text text = outcome (whole (record { left = text; at = 0 }))
