-- What comes after the name of each type: the geometry that is meant, by the readers of the code.
use Rattle.std.proofs.Common.{◌≡◌, refl, ap, ◌∙◌, ℕ, Bool, true, false, if◌then◌else◌, List, [], ◌∷◌, map, Result, Ok, Err, codes}
use Rattle.std.specs.Str.{str_eq_ignore_ascii_case, str_to_ascii_lowercase}
use Rattle.std.proofs.lemmas.Slice.Eq.{bytes_eq-Decides}
use Rattle.geometry_model.specs.Points.{Position}
use Rattle.geometry_model.specs.Geometries.{Geometry, Point, MultiPoint, LineString, MultiLineString, Polygon, MultiPolygon}
use Rattle.geometry_model.specs.TextReading.{Input, Reader, ◌>>=◌, and_then, pure, padded, enclosed, position, point, separated, parts, polygons, body, first, typed}
use Rattle.geometry_model.specs.WellKnownText.{Word, without_repeats, geometry_of, position_limit, part_limit}
use Rattle.geometry_model.specs.declared.text_faults.TextFault.{TextFault}
use Rattle.text_laws.proofs.TextSteps.{word_is}
use Rattle.text_laws.proofs.TextComplete.{named}
use Rattle.wkt.specs.ReadingSteps as steps
use Rattle.wkt.specs.ReadingSteps.{empty_word, meant}
use Rattle.wkt.proofs.Bodies.{body_by_empty_word}
use Rattle.wkt.proofs.Rooms.{alike, enclosed_mapped}

-- what is made of a body's items can be made of them inside, where nothing is made of none
body_mapped : {A : Type 0} (inner : Reader (List A)) (f : List A → List A) → f [] ≡ [] → (i : Input)
    → and_then (body inner i) (λ xs. pure (f xs)) ≡ steps.body (inner >>= λ xs. pure (f xs)) i
body_mapped inner f none i = ap (λ r. and_then r (λ xs. pure (f xs))) (body_by_empty_word inner i) ∙ both (empty_word i)
  where
    by_word : (empty : Bool) (j : Input) → and_then ((if empty then pure [] else enclosed inner) j) (λ xs. pure (f xs)) ≡ (if empty then pure [] else enclosed (inner >>= λ xs. pure (f xs))) j
    by_word true j = ap (λ l. Ok (l, j)) none
    by_word false j = enclosed_mapped inner f j

    both : (r : Result (Bool × Input) TextFault) → and_then (and_then r (λ empty. if empty then pure [] else enclosed inner)) (λ xs. pure (f xs))
        ≡ and_then r (λ empty. if empty then pure [] else enclosed (inner >>= λ xs. pure (f xs)))
    both (Ok found) = by_word found.0 found.1
    both (Err fault) = refl

-- the geometry that is meant by items is made of the items that are meant
turned : {A : Type 0} (r : Result (A × Input) TextFault) (f : A → Geometry) (h : A → A) → ((x : A) → geometry_of (f x) ≡ f (h x))
    → and_then (and_then r (λ x. pure (f x))) (λ w. pure (geometry_of w)) ≡ and_then (and_then r (λ x. pure (h x))) (λ y. pure (f y))
turned (Ok found) f h same = ap (λ g. Ok (g, found.1)) (same found.0)
turned (Err fault) f h same = refl

-- a body as it is meant
pub meant_text : {A : Type 0} (inner step : Reader (List A)) (h : List A → List A) (f : List A → Geometry) → h [] ≡ [] → ((x : List A) → geometry_of (f x) ≡ f (h x))
    → ((j : Input) → and_then (inner j) (λ x. pure (h x)) ≡ step j) → (i : Input) → meant (body inner >>= λ xs. pure (f xs)) i ≡ (steps.body step >>= λ xs. pure (f xs)) i
meant_text inner step h f none same reads i = turned (body inner i) f h same
    ∙ ap (λ r. and_then r (λ xs. pure (f xs))) (body_mapped inner h none i ∙ ap (λ s. steps.body s i) (alike (inner >>= λ x. pure (h x)) step reads))

-- making nothing new of what was found changes nothing
itself : {A : Type 0} (r : Result (A × Input) TextFault) → and_then r (λ x. pure x) ≡ r
itself (Ok found) = refl
itself (Err fault) = refl

-- the room that is left is dropped behind what was found
room_dropped : {A B C : Type 0} (r : Result (A × Input) TextFault) (f : A → B) (g : A → C) → and_then r (λ x. pure (f x)) ≡ and_then {A = B × C} (and_then r (λ x. pure (f x, g x))) (λ p. pure p.0)
room_dropped (Ok found) f g = refl
room_dropped (Err fault) f g = refl

abbrev point_list : Reader (List Position)
point_list = padded (position position_limit) >>= λ p. pure (p ∷ [])

-- name by name, what the definition reads behind it, as it is meant, is what the code reads: behind POINT
pub behind_point : (at : ℕ) (name : List ℕ) (i : Input) → str_eq_ignore_ascii_case name (codes "POINT") ≡ true → meant (typed at name) i ≡ steps.point_body i
unfolding typed
behind_point at name i is = let own = codes "POINT" in let w : Word own name = word_is name own is in
    rw (named name own (codes "POINT") w)
    (meant_text point_list point_list (λ ps. ps) (λ ps. Point (first ps)) refl (λ x. refl) (λ j. itself (point_list j)) i)

-- behind MULTIPOINT, whose equal points stay
pub behind_multi_point : (at : ℕ) (name : List ℕ) (i : Input) → str_eq_ignore_ascii_case name (codes "MULTIPOINT") ≡ true → meant (typed at name) i ≡ steps.multi_point_body i
unfolding typed
behind_multi_point at name i is = let own = codes "MULTIPOINT" in let w : Word own name = word_is name own is in
    rw (named name own (codes "POINT") w, named name own (codes "MULTIPOINT") w)
    (meant_text (separated point position_limit) (separated point position_limit) (λ ps. ps) MultiPoint refl (λ x. refl) (λ j. itself (separated point position_limit j)) i)

-- behind LINESTRING, without repeats
pub behind_line_string : (at : ℕ) (name : List ℕ) (i : Input) → str_eq_ignore_ascii_case name (codes "LINESTRING") ≡ true → meant (typed at name) i ≡ steps.line_string_body i
unfolding typed
behind_line_string at name i is = let own = codes "LINESTRING" in let w : Word own name = word_is name own is in
    rw (named name own (codes "POINT") w, named name own (codes "MULTIPOINT") w, named name own (codes "LINESTRING") w)
    (meant_text (separated position position_limit) (steps.without_room (steps.line_positions position_limit)) without_repeats LineString refl (λ x. refl)
    (λ j. room_dropped (separated position position_limit j) _ _) i)

-- behind MULTILINESTRING, each line without repeats
pub behind_multi_line_string : (at : ℕ) (name : List ℕ) (i : Input) → str_eq_ignore_ascii_case name (codes "MULTILINESTRING") ≡ true → meant (typed at name) i ≡ steps.multi_line_string_body i
unfolding typed
behind_multi_line_string at name i is = let own = codes "MULTILINESTRING" in let w : Word own name = word_is name own is in
    rw (named name own (codes "POINT") w, named name own (codes "MULTIPOINT") w, named name own (codes "LINESTRING") w, named name own (codes "MULTILINESTRING") w)
    (meant_text (parts part_limit position_limit) (steps.without_room (steps.rings steps.whole_room)) (map without_repeats) MultiLineString refl (λ x. refl)
    (λ j. room_dropped (parts part_limit position_limit j) _ _) i)

-- behind POLYGON, each ring without repeats
pub behind_polygon : (at : ℕ) (name : List ℕ) (i : Input) → str_eq_ignore_ascii_case name (codes "POLYGON") ≡ true → meant (typed at name) i ≡ steps.polygon_body i
unfolding typed
behind_polygon at name i is = let own = codes "POLYGON" in let w : Word own name = word_is name own is in
    rw (
      named name own (codes "POINT") w,
      named name own (codes "MULTIPOINT") w,
      named name own (codes "LINESTRING") w,
      named name own (codes "MULTILINESTRING") w,
      named name own (codes "POLYGON") w,
    )
    (meant_text (parts part_limit position_limit) (steps.without_room (steps.rings steps.whole_room)) (map without_repeats) Polygon refl (λ x. refl)
    (λ j. room_dropped (parts part_limit position_limit j) _ _) i)

-- behind MULTIPOLYGON, likewise
pub behind_multi_polygon : (at : ℕ) (name : List ℕ) (i : Input) → str_eq_ignore_ascii_case name (codes "MULTIPOLYGON") ≡ true → meant (typed at name) i ≡ steps.multi_polygon_body i
unfolding typed
behind_multi_polygon at name i is = let own = codes "MULTIPOLYGON" in let w : Word own name = word_is name own is in
    rw (
      named name own (codes "POINT") w,
      named name own (codes "MULTIPOINT") w,
      named name own (codes "LINESTRING") w,
      named name own (codes "MULTILINESTRING") w,
      named name own (codes "POLYGON") w,
      named name own (codes "MULTIPOLYGON") w,
    )
    (meant_text (polygons part_limit part_limit position_limit) (steps.without_room (steps.polygons steps.whole_room)) (map (map without_repeats)) MultiPolygon refl (λ x. refl)
    (λ j. room_dropped (polygons part_limit part_limit position_limit j) _ _) i)

-- the code's test shows whether a name is a word in any case
pub is_word : (name word : List ℕ) (b : Bool) → (b ≡ true → str_to_ascii_lowercase name ≡ str_to_ascii_lowercase word) → b ≡ true → str_eq_ignore_ascii_case name word ≡ true
is_word name word b same is = (bytes_eq-Decides (str_to_ascii_lowercase name) (str_to_ascii_lowercase word)).1 (same is)
