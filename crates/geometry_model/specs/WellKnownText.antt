-- Well-known text: which text spells which geometry. Each rule says which texts it takes, and reads as the grammar is printed.
use Rattle.std.specs.Prelude.{◌≡◌, ℕ, ◌+◌, ◌<◌, ◌≤◌, ◌==◌, ◌⊎◌, ℤ, pos, neg_ℤ, Bool, true, false, ◌&&◌, ◌||◌, List, [], ◌∷◌, ◌++◌, length, map, codes}
use Rattle.std.specs.Char.{is_ascii_digit}
use Rattle.std.specs.Ordering.{int_eq}
use Rattle.std.specs.List.{list_all, dedup, flat_map}
use Rattle.std.specs.Option.{option_to_list}
use Rattle.std.specs.Str.{str_to_ascii_lowercase}
use Rattle.std.specs.Str.Parse.{digits_value}
use Rattle.geometry_model.specs.Points.{Position}
use Rattle.geometry_model.specs.Geometries.{Geometry, Point, MultiPoint, LineString, MultiLineString, Polygon, MultiPolygon, joined_rings}

-- the greatest size of a coordinate: 10,000,000 either way (this project's choice)
abbrev pub coordinate_limit : ℕ
coordinate_limit = 10000000

-- the most positions of a geometry, as they are written: 10,000 (this project's choice)
abbrev pub position_limit : ℕ
position_limit = 10000

-- the most rings of a polygon or of all polygons of a MULTIPOLYGON, and elements of a MULTILINESTRING: 1,000 (this
-- project's choice)
abbrev pub part_limit : ℕ
part_limit = 1000

-- whether a text begins with a byte that passes the test
abbrev pub begins_with : (ℕ → Bool) → List ℕ → Bool
begins_with test [] = false
begins_with test (c ∷ rest) = test c

-- a rule of the grammar: the texts that it takes (06-103r4, 7.2.1)
abbrev pub Rule : Type 1
Rule = List ℕ → Type 0

-- a text of the first rule, followed by a text of the second (06-103r4, 7.2.1)
infixr 20 ◌⨾◌
abbrev pub ◌⨾◌ : Rule → Rule → Rule
(A ⨾ B) text = (first rest : List ℕ) × (text ≡ first ++ rest) × A first × B rest

-- this one byte (06-103r4, 7.2.1)
abbrev pub Byte : ℕ → Rule
Byte c text = text ≡ c ∷ []

-- space, tab, line feed, carriage return
abbrev pub is_white : ℕ → Bool
is_white c = c == 32 || c == 9 || c == 10 || c == 13

-- white space, or none
abbrev pub Blank : Rule
Blank text = list_all is_white text ≡ true

-- white space of one byte or more
abbrev pub Space : Rule
Space text = (0 < length text) × Blank text

-- the rule's text with white space or none on both sides
abbrev pub Padded : Rule → Rule
Padded A = Blank ⨾ A ⨾ Blank

-- the rule's text in parentheses (06-103r4, 7.2.2: left paren, right paren)
abbrev pub Enclosed : Rule → Rule
Enclosed A = Byte 40 ⨾ A ⨾ Byte 41

-- a word in any ASCII case (06-103r4, 7.2.1)
abbrev pub Word : List ℕ → Rule
Word name text = str_to_ascii_lowercase text ≡ str_to_ascii_lowercase name

-- one or more, with commas between (06-103r4, 7.2.2: the texts of points, line strings and rings)
abbrev pub Separated : {A : Type 0} → (A → Rule) → List A → Rule
Separated P [] text = ⊥
Separated P (x ∷ []) text = Padded (P x) text
Separated P (x ∷ y ∷ more) text = (Padded (P x) ⨾ Byte 44 ⨾ Separated P (y ∷ more)) text

-- plus, minus or nothing; whether it is a minus (06-103r4, 7.2.2: sign)
abbrev pub Sign : Bool → Rule
Sign false text = (text ≡ []) ⊎ (text ≡ codes "+")
Sign true text = text ≡ codes "-"

-- these digits, perhaps none (06-103r4, 7.2.2: unsigned integer)
abbrev pub Digits : List ℕ → Rule
Digits digits text = (text ≡ digits) × (list_all is_ascii_digit digits ≡ true)

-- a point with these digits after it, or nothing (06-103r4, 7.2.2: decimal point)
abbrev pub Fraction : List ℕ → Rule
Fraction digits text = ((text ≡ []) × (digits ≡ [])) ⊎ (Byte 46 ⨾ Digits digits) text

-- a number as it is written: its sign, and the digits before and after the point, one at least
-- (06-103r4, 7.2.2: signed numeric literal; without exponents: this project's choice)
abbrev pub Numeral : Bool → List ℕ → List ℕ → Rule
Numeral minus whole fraction text = (Sign minus ⨾ Digits whole ⨾ Fraction fraction) text × (0 < length whole + length fraction)

-- the digits after the point are all 0, so the number is whole
abbrev pub is_whole : List ℕ → Bool
is_whole fraction = list_all (λ c. c == 48) fraction

-- the whole number of a sign and digits (06-103r4, 7.2.2: signed numeric literal)
abbrev pub signed : Bool → List ℕ → ℤ
signed false whole = pos (digits_value 10 whole)
signed true whole = neg_ℤ (pos (digits_value 10 whole))

-- a whole number within the limit
abbrev pub Number : ℤ → Rule
Number z text = (minus : Bool) × (whole fraction : List ℕ) × Numeral minus whole fraction text
    × (is_whole fraction ≡ true) × (digits_value 10 whole ≤ coordinate_limit) × (z ≡ signed minus whole)

-- two numbers with white space between (06-103r4, 7.2.2: point)
abbrev pub PositionText : Position → Rule
PositionText p = Number p.x ⨾ Space ⨾ Number p.y

-- a position of a MULTIPOINT, with parentheses or without (06-103r4, 7.2.2: point text; without: this project's choice)
abbrev pub PointText : Position → Rule
PointText p text = PositionText p text ⊎ Enclosed (Padded (PositionText p)) text

-- the positions of a line or ring (06-103r4, 7.2.2: linestring text)
abbrev pub LineText : List Position → Rule
LineText ps = Enclosed (Separated PositionText ps)

-- the rings of a polygon (06-103r4, 7.2.2: polygon text)
abbrev pub PolygonText : List (List Position) → Rule
PolygonText rings = Enclosed (Separated LineText rings)

-- what comes after the type's name: EMPTY, or the parts in parentheses (06-103r4, 7.2.2: empty set)
abbrev pub Body : {A : Type 0} → (A → Rule) → List A → Rule
Body P [] = Space ⨾ Word (codes "EMPTY")
Body P (x ∷ more) = Blank ⨾ Enclosed (Separated P (x ∷ more))

-- the type's name and what comes after it, with the positions as they are written, also equal ones
-- (06-103r4, 7.2.2: the tagged texts)
abbrev pub TaggedText : Geometry → Rule
TaggedText (Point p) = Word (codes "POINT") ⨾ Body PositionText (option_to_list p)
TaggedText (MultiPoint ps) = Word (codes "MULTIPOINT") ⨾ Body PointText ps
TaggedText (LineString ps) = Word (codes "LINESTRING") ⨾ Body PositionText ps
TaggedText (MultiLineString lines) = Word (codes "MULTILINESTRING") ⨾ Body LineText lines
TaggedText (Polygon rings) = Word (codes "POLYGON") ⨾ Body LineText rings
TaggedText (MultiPolygon polygons) = Word (codes "MULTIPOLYGON") ⨾ Body PolygonText polygons

-- a whole text, with its positions as they are written (06-103r4, 7.2.2: well-known text representation)
abbrev pub Writes : Geometry → Rule
Writes written = Padded (TaggedText written)

-- all positions as they are written, in order
abbrev pub written_positions : Geometry → List Position
written_positions (Point p) = option_to_list p
written_positions (MultiPoint ps) = ps
written_positions (LineString ps) = ps
written_positions (MultiLineString lines) = flat_map (λ line. line) lines
written_positions (Polygon rings) = flat_map (λ ring. ring) rings
written_positions (MultiPolygon polygons) = flat_map (λ ring. ring) (joined_rings polygons)

-- the elements of a MULTILINESTRING, the rings of a polygon or of all polygons
abbrev pub written_parts : Geometry → List (List Position)
written_parts (Point p) = []
written_parts (MultiPoint ps) = []
written_parts (LineString ps) = []
written_parts (MultiLineString lines) = lines
written_parts (Polygon rings) = rings
written_parts (MultiPolygon polygons) = joined_rings polygons

-- positions and parts are within their limits
abbrev pub IsWithinCounts : Geometry → Type 0
IsWithinCounts written = (length (written_positions written) ≤ position_limit) × (length (written_parts written) ≤ part_limit)

-- whether two positions are equal
abbrev pub same_position : Position → Position → Bool
same_position a b = int_eq a.x b.x && int_eq a.y b.y

-- the positions of a line or ring, each run of equal ones made one
abbrev pub without_repeats : List Position → List Position
without_repeats ps = dedup same_position ps

-- the geometry of what is written: each line and ring without repeats; the points of a MULTIPOINT as they are
abbrev pub geometry_of : Geometry → Geometry
geometry_of (Point p) = Point p
geometry_of (MultiPoint ps) = MultiPoint ps
geometry_of (LineString ps) = LineString (without_repeats ps)
geometry_of (MultiLineString lines) = MultiLineString (map without_repeats lines)
geometry_of (Polygon rings) = Polygon (map without_repeats rings)
geometry_of (MultiPolygon polygons) = MultiPolygon (map (map without_repeats) polygons)

-- the text spells the geometry (06-103r4, 7.2; numbers, limits and repeats: this project's choice)
pub record Spells (text : List ℕ) (g : Geometry) : Type 0 where
  pub written : Geometry
  pub spelled : Writes written text
  pub counts : IsWithinCounts written
  pub meant : g ≡ geometry_of written

-- some text that begins with this one spells a geometry
abbrev pub Begins : List ℕ → Type 0
Begins front = (rest : List ℕ) × (g : Geometry) × Spells (front ++ rest) g
