-- The arrays of what a text writes are taken as the text is read.
use Rattle.std.proofs.Common.{◌≡◌, refl, sym, ap, ◌∙◌, subst, ℕ, suc, ◌≤◌, inl, inr, ℤ, Bool, true, false, if◌then◌else◌, List, [], ◌∷◌, ◌++◌, length, nat_le, Some, None, Err, unsigned_abs, arith}
use Rattle.std.specs.List.{flat_map}
use Rattle.std.specs.Option.{option_to_list}
use Rattle.std.specs.Str.Parse.{digits_value}
use Rattle.std.proofs.lemmas.Bool.{and_parts, and_from}
use Rattle.std.proofs.lemmas.Grind.{flat_map-append}
use Rattle.geometry_model.specs.CheckedTexts.{geometry_in_text, tested}
use Rattle.geometry_model.specs.Geometries.{Geometry, Point, MultiPoint, LineString, MultiLineString, Polygon, MultiPolygon, joined_rings}
use Rattle.geometry_model.specs.Points.{Position}
use Rattle.geometry_model.specs.TextReading.{read_text}
use Rattle.geometry_model.specs.WellKnownText.{Rule, Separated, Number, PositionText, PointText, LineText, PolygonText, Body, TaggedText, Writes, IsWithinCounts, coordinate_limit, geometry_of, part_limit, position_limit, signed, written_parts, written_positions}
use Rattle.geometry_model.specs.declared.text_faults.TextFault.TheVariants.{TooLong}
use Rattle.text_laws.proofs.FullTexts.{too_many_is_too_long}
use Rattle.basics.proofs.Numbers.{negated}
use Rattle.text_laws.proofs.TextComplete.{spelled_is_read}
use Rattle.fraction.specs.Ranges.{IsOnGrid}
use Rattle.library_calls.specs.ArrayLaws.{ArraysAreAsTexts, TestsAreLimits}
use Rattle.library_calls.specs.Written.{first_past_limit, geometry_in_arrays, is_on_grid, is_within_counts, taken, within_or}

-- ---- all numbers of a text are within the limit

signed_size : (minus : Bool) (whole : List ℕ) → unsigned_abs (signed minus whole) ≡ digits_value 10 whole
signed_size false whole = refl
signed_size true whole = negated (digits_value 10 whole)

number_within : (z : ℤ) (text : List ℕ) → Number z text → unsigned_abs z ≤ coordinate_limit
number_within z text n = rw (n.6, signed_size n.0 n.1) n.5

position_within : (p : Position) (text : List ℕ) → PositionText p text → is_on_grid p ≡ true
position_within p text t =
    let x = number_within p.x t.0 t.3 in
    let y = number_within p.y t.4.1 t.4.4 in
    grind (arith, x, y)

-- these positions are on the grid
abbrev On : List Position → Type 0
On [] = Unit {0}
On (p ∷ ps) = (is_on_grid p ≡ true) × On ps

on_both : (ps qs : List Position) → On ps → On qs → On (ps ++ qs)
on_both [] qs one other = other
on_both (p ∷ ps) qs one other = (one.0, on_both ps qs one.1 other)

-- so none is the first past the limit
none_past : (at : ℕ) (ps : List Position) → On ps → first_past_limit at ps ≡ None
none_past at [] on = refl
none_past at (p ∷ ps) on = ap (λ test. if test then first_past_limit (suc at) ps else Some at) on.0 ∙ none_past (suc at) ps on.1

-- what holds of each item of the grammar holds of all in a list
each_in : {A : Type 0} (P : A → Rule) (f : A → List Position) → ((x : A) (text : List ℕ) → P x text → On (f x)) → (xs : List A) (text : List ℕ) → Separated P xs text → On (flat_map f xs)
each_in P f holds [] text t = absurd t
each_in P f holds (x ∷ []) text t = on_both (f x) [] (holds x t.4.0 t.4.3) tt
each_in P f holds (x ∷ y ∷ more) text t = on_both (f x) (flat_map f (y ∷ more)) (holds x t.3.4.0 t.3.4.3) (each_in P f holds (y ∷ more) t.4.1 t.4.4)

-- and of all in a body
each_of : {A : Type 0} (P : A → Rule) (f : A → List Position) → ((x : A) (text : List ℕ) → P x text → On (f x)) → (xs : List A) (text : List ℕ) → Body P xs text → On (flat_map f xs)
each_of P f holds [] text t = tt
each_of P f holds (x ∷ more) text t = each_in P f holds (x ∷ more) t.4.4.0 t.4.4.3

-- positions one by one are the positions
singles : (ps : List Position) → On (flat_map (λ p. p ∷ []) ps) → On ps
singles [] on = tt
singles (p ∷ ps) on = (on.0, singles ps on.1)

alone : (p : Position) (text : List ℕ) → PositionText p text → On (p ∷ [])
alone p text t = (position_within p text t, tt)

point_alone : (p : Position) (text : List ℕ) → PointText p text → On (p ∷ [])
point_alone p text (inl t) = alone p text t
point_alone p text (inr t) = alone p t.4.3.4.0 t.4.3.4.3

line_on : (ps : List Position) (text : List ℕ) → LineText ps text → On ps
line_on ps text t = singles ps (each_in PositionText (λ p. p ∷ []) alone ps t.4.0 t.4.3)

polygon_on : (rings : List (List Position)) (text : List ℕ) → PolygonText rings text → On (flat_map (λ ring. ring) rings)
polygon_on rings text t = each_in LineText (λ ring. ring) line_on rings t.4.0 t.4.3

-- the positions of polygons are those of all their rings
ring_by_ring : (es : List (List (List Position))) → flat_map (λ ring. ring) (joined_rings es) ≡ flat_map (flat_map (λ ring. ring)) es
ring_by_ring [] = refl
ring_by_ring (e ∷ es) = flat_map-append (λ ring. ring) e (joined_rings es) ∙ ap (λ ps. flat_map (λ ring. ring) e ++ ps) (ring_by_ring es)

-- so all positions of a text are on the grid, of each type
tagged_on : (w : Geometry) (text : List ℕ) → TaggedText w text → On (written_positions w)
tagged_on (Point p) text t = singles (option_to_list p) (each_of PositionText (λ p. p ∷ []) alone (option_to_list p) t.1 t.4)
tagged_on (MultiPoint ps) text t = singles ps (each_of PointText (λ p. p ∷ []) point_alone ps t.1 t.4)
tagged_on (LineString ps) text t = singles ps (each_of PositionText (λ p. p ∷ []) alone ps t.1 t.4)
tagged_on (MultiLineString ls) text t = each_of LineText (λ line. line) line_on ls t.1 t.4
tagged_on (Polygon rs) text t = each_of LineText (λ ring. ring) line_on rs t.1 t.4
tagged_on (MultiPolygon es) text t = subst On (sym (ring_by_ring es)) (each_of PolygonText (flat_map (λ ring. ring)) polygon_on es t.1 t.4)

-- ---- so arrays are taken as texts are read

-- the test of the counts
are_within : (w : Geometry) → is_within_counts w ≡ true → IsWithinCounts w
are_within w few =
    let both = and_parts (nat_le (length (written_positions w)) position_limit) (nat_le (length (written_parts w)) part_limit) few in
    let positions : nat_le (length (written_positions w)) position_limit ≡ true = both.0 in
    let parts : nat_le (length (written_parts w)) part_limit ≡ true = both.1 in
    (grind (arith, positions), grind (arith, parts))

few_enough : (w : Geometry) → IsWithinCounts w → is_within_counts w ≡ true
few_enough w within =
    let one = within.0 in let other = within.1 in
    and_from (nat_le (length (written_positions w)) position_limit) (nat_le (length (written_parts w)) part_limit)
    (grind (arith, one)) (grind (arith, other))

on_grid : (p : Position) → is_on_grid p ≡ true → IsOnGrid p
on_grid p test =
    let both = and_parts (nat_le (unsigned_abs p.x) coordinate_limit) (nat_le (unsigned_abs p.y) coordinate_limit) test in
    let x : nat_le (unsigned_abs p.x) coordinate_limit ≡ true = both.0 in
    let y : nat_le (unsigned_abs p.y) coordinate_limit ≡ true = both.1 in
    record { x = grind (arith, x); y = grind (arith, y) }

near_enough : (p : Position) → IsOnGrid p → is_on_grid p ≡ true
near_enough p on =
    let x = on.x in let y = on.y in
    and_from (nat_le (unsigned_abs p.x) coordinate_limit) (nat_le (unsigned_abs p.y) coordinate_limit)
    (grind (arith, x)) (grind (arith, y))

pub tests_are_limits : TestsAreLimits
tests_are_limits = ((λ w. (are_within w, few_enough w)), (λ p. (on_grid p, near_enough p)))

are_beyond : (w : Geometry) → is_within_counts w ≡ false → ¬ (IsWithinCounts w)
are_beyond w many within = let one = within.0 in let other = within.1 in grind (arith, many, one, other)

-- a text with these numbers is read as the arrays are taken
taken_as_read : (w : Geometry) (text : List ℕ) → Writes w text → (few : Bool) → is_within_counts w ≡ few → read_text text ≡ taken w
taken_as_read w text writes true few =
    spelled_is_read text (geometry_of w) (record { written = w; spelled = writes; counts = are_within w few; meant = refl })
    ∙ sym (ap (λ test. if test then within_or w (first_past_limit 0 (written_positions w)) else Err TooLong) few
    ∙ ap (within_or w) (none_past 0 (written_positions w) (tagged_on w writes.4.0 writes.4.3)))
taken_as_read w text writes false many =
    too_many_is_too_long text w writes (are_beyond w many)
    ∙ sym (ap (λ test. if test then within_or w (first_past_limit 0 (written_positions w)) else Err TooLong) many)

pub arrays_are_as_texts : ArraysAreAsTexts
unfolding geometry_in_text geometry_in_arrays
arrays_are_as_texts w text writes = ap tested (taken_as_read w text writes (is_within_counts w) refl)
