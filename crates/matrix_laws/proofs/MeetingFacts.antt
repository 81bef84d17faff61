-- Where a predicate that forces meeting holds of two valid geometries, their envelopes meet.
use Rattle.std.proofs.Common.{◌≡◌, ◌≢◌, ℕ, suc, Bool, true, false, not, ◌&&◌, ◌||◌, if◌then◌else◌, refl, sym, ap, ap₂, ◌∙◌, List, [], ◌∷◌, flat_map, Option, Some, None, slice_get, codes}
use Rattle.std.specs.List.{list_any}
use Rattle.std.specs.Option.{option_map_or}
use Rattle.std.proofs.lemmas.Bool.{and_parts}
use Rattle.basics.proofs.Bools.{not_both}
use Rattle.geometry_model.specs.Points.{Position, Point, point_at}
use Rattle.geometry_model.specs.Geometries.{Geometry, edges_of_lines, positions, kind, joined_rings}
use Rattle.geometry_model.specs.Sides.{on}
use Rattle.geometry_model.specs.Crossings.{odd_above}
use Rattle.geometry_model.specs.Locations.{is_at, on_some, is_odd_end, in_points, in_lines, in_rings, locate}
use Rattle.geometry_model.specs.Dimensions.{HasPoint, HasDimension, Matrix, cell, common, IsMatrix, transposed}
use Rattle.geometry_model.specs.Patterns.{takes, matches, pattern_of_text}
use Rattle.geometry_model.specs.Predicates.{like, crosses, overlaps, holds, wants_point, wants_common_point, forces_meeting}
use Rattle.geometry_model.specs.Envelopes.{envelope_of_positions, envelope, meets}
use Rattle.geometry_model.specs.Validity.{IsValid}
use Rattle.geometry_model.specs.declared.validity_faults.ValidityFault.TheVariants.{TooFewPoints}
use Rattle.geometry_model.specs.declared.point_sets.Location.{Location}
use Rattle.geometry_model.specs.declared.point_sets.Location.TheVariants.{Interior, Boundary, Exterior}
use Rattle.geometry_model.specs.declared.point_sets.Dimension.{Dimension}
use Rattle.geometry_model.specs.declared.point_sets.Dimension.TheVariants.{Empty, Zero, One, Two}
use Rattle.geometry_model.specs.declared.shapes.Kind.{Kind}
use Rattle.geometry_model.specs.declared.shapes.Kind.TheVariants as kinds
use Rattle.geometry_model.specs.declared.relations.PatternCharacter.{PatternCharacter}
use Rattle.geometry_model.specs.declared.relations.PatternCharacter.TheVariants as characters
use Rattle.geometry_model.specs.declared.relations.Pattern.{Pattern}
use Rattle.geometry_model.specs.declared.relations.Predicate.{Predicate}
use Rattle.geometry_model.specs.declared.relations.Predicate.TheVariants as predicates
use Rattle.geometry_laws.proofs.Cuts.{same_end}
use Rattle.geometry_laws.proofs.Locating.{start_is_on}
use Rattle.geometry_laws.proofs.RingParity.{position_is_point}
use Rattle.matrix_laws.proofs.Closing.{valid_rings_are_closed}
use Rattle.matrix_laws.proofs.Outside.{common_point_meets}
use Rattle.matrix_laws.proofs.Empty.{nothing_common}

-- ---- a pattern that wants a point in both doesn't match where there is none
-- no point is in the interior or boundary of both
record Apart (m : Matrix) : Type 0 where
  ii : m.interior_interior ≡ Empty
  ib : m.interior_boundary ≡ Empty
  bi : m.boundary_interior ≡ Empty
  bb : m.boundary_boundary ≡ Empty

-- that is so whichever geometry comes first
apart_transposed : (m : Matrix) → Apart m → Apart (transposed m)
apart_transposed m h = record { ii = h.ii; ib = h.bi; bi = h.ib; bb = h.bb }

-- only a character that wants no point takes an empty cell
taken_empty : (c : PatternCharacter) → takes c Empty ≡ true → wants_point c ≡ false
taken_empty characters.True e = absurd cc
taken_empty characters.False e = refl
taken_empty characters.Any e = refl
taken_empty characters.Zero e = absurd cc
taken_empty characters.One e = absurd cc
taken_empty characters.Two e = absurd cc

-- a character that takes the dimension of an empty cell wants no point
wants_none : (c : PatternCharacter) (d : Dimension) → takes c d ≡ true → d ≡ Empty → wants_point c ≡ false
wants_none c d h e = taken_empty c (ap (takes c) (sym e) ∙ h)

-- of nine tests that all pass the first, second, fourth and fifth do
first_of_nine : (a b c d e f g h i : Bool) → (a && b && c && d && e && f && g && h && i) ≡ true → (a ≡ true) × (b ≡ true) × (d ≡ true) × (e ≡ true)
first_of_nine a b c d e f g h i k =
    let five = (and_parts (a && b && c && d && e) f (and_parts (a && b && c && d && e && f) g (and_parts (a && b && c && d && e && f && g) h (and_parts (a && b && c && d && e && f && g && h) i k).0).0).0).0 in
    let four = and_parts (a && b && c && d) e five in
    let three = and_parts (a && b && c) d four.0 in
    let two = and_parts a b (and_parts (a && b) c three.0).0 in
    (two.0, two.1, three.1, four.1)

none_of_four : (a b c d : Bool) → a ≡ false → b ≡ false → c ≡ false → d ≡ false → (a || b || c || d) ≡ false
none_of_four a b c d e f g h = ap₂ (λ (x y : Bool). x || y) (ap₂ (λ (x y : Bool). x || y) (ap₂ (λ (x y : Bool). x || y) e f) g) h

-- a pattern that matches such a matrix wants no point in the interior or boundary of both
wants_no_common : (p : Pattern) (m : Matrix) → Apart m → matches p m ≡ true → wants_common_point p ≡ false
wants_no_common p m h k = let t = first_of_nine
    (takes p.interior_interior m.interior_interior) (takes p.interior_boundary m.interior_boundary) (takes p.interior_exterior m.interior_exterior)
    (takes p.boundary_interior m.boundary_interior) (takes p.boundary_boundary m.boundary_boundary) (takes p.boundary_exterior m.boundary_exterior)
    (takes p.exterior_interior m.exterior_interior) (takes p.exterior_boundary m.exterior_boundary) (takes p.exterior_exterior m.exterior_exterior) k in
    none_of_four (wants_point p.interior_interior) (wants_point p.interior_boundary) (wants_point p.boundary_interior) (wants_point p.boundary_boundary)
    (wants_none p.interior_interior m.interior_interior t.0 h.ii) (wants_none p.interior_boundary m.interior_boundary t.1 h.ib)
    (wants_none p.boundary_interior m.boundary_interior t.2 h.bi) (wants_none p.boundary_boundary m.boundary_boundary t.3 h.bb)

-- so a pattern that wants a common point doesn't match it
no_match : (p : Pattern) (m : Matrix) → wants_common_point p ≡ true → Apart m → matches p m ≡ true → ⊥
no_match p m w h k = absurd (let f : true ≡ false = sym w ∙ wants_no_common p m h k in cc)

-- nor does a text of such a pattern, and a text that writes no pattern matches nothing
no_like : (o : Option Pattern) (m : Matrix) → option_map_or wants_common_point o true ≡ true → Apart m → option_map_or (λ p. matches p m) o false ≡ true → ⊥
no_like None m w h k = absurd cc
no_like (Some p) m w h k = no_match p m w h k

-- ---- the named predicates
-- Crosses wants a common point for each two kinds
no_cross : (k l : Kind) (m : Matrix) → Apart m → crosses k l m ≡ true → ⊥
no_cross kinds.Point kinds.Point m h e = absurd cc
no_cross kinds.Point kinds.Line m h e = no_like (pattern_of_text (codes "T*T******")) m refl h e
no_cross kinds.Point kinds.Area m h e = no_like (pattern_of_text (codes "T*T******")) m refl h e
no_cross kinds.Line kinds.Point m h e = no_like (pattern_of_text (codes "T*****T**")) m refl h e
no_cross kinds.Line kinds.Line m h e = no_like (pattern_of_text (codes "0********")) m refl h e
no_cross kinds.Line kinds.Area m h e = no_like (pattern_of_text (codes "T*T******")) m refl h e
no_cross kinds.Area kinds.Point m h e = no_like (pattern_of_text (codes "T*****T**")) m refl h e
no_cross kinds.Area kinds.Line m h e = no_like (pattern_of_text (codes "T*****T**")) m refl h e
no_cross kinds.Area kinds.Area m h e = absurd cc

-- so does Overlaps
no_overlap : (k l : Kind) (m : Matrix) → Apart m → overlaps k l m ≡ true → ⊥
no_overlap kinds.Point kinds.Point m h e = no_like (pattern_of_text (codes "T*T***T**")) m refl h e
no_overlap kinds.Point kinds.Line m h e = absurd cc
no_overlap kinds.Point kinds.Area m h e = absurd cc
no_overlap kinds.Line kinds.Point m h e = absurd cc
no_overlap kinds.Line kinds.Line m h e = no_like (pattern_of_text (codes "1*T***T**")) m refl h e
no_overlap kinds.Line kinds.Area m h e = absurd cc
no_overlap kinds.Area kinds.Point m h e = absurd cc
no_overlap kinds.Area kinds.Line m h e = absurd cc
no_overlap kinds.Area kinds.Area m h e = no_like (pattern_of_text (codes "T*T***T**")) m refl h e

false_of_three : (a b c : Bool) → (a ≡ true → ⊥) → (b ≡ true → ⊥) → (c ≡ true → ⊥) → (a || b || c) ≡ true → ⊥
false_of_three true b c f g h e = f refl
false_of_three false true c f g h e = g refl
false_of_three false false c f g h e = h e

-- so does each of the three patterns of Touches
no_touch : (m : Matrix) → Apart m → (like (codes "FT*******") m || like (codes "F**T*****") m || like (codes "F***T****") m) ≡ true → ⊥
no_touch m h e = false_of_three (like (codes "FT*******") m) (like (codes "F**T*****") m) (like (codes "F***T****") m)
    (no_like (pattern_of_text (codes "FT*******")) m refl h) (no_like (pattern_of_text (codes "F**T*****")) m refl h) (no_like (pattern_of_text (codes "F***T****")) m refl h) e

-- a matrix without common points matches the pattern of Disjoint
disjoint_like : (m : Matrix) → Apart m → like (codes "FF*FF****") m ≡ true
disjoint_like m h = four (takes characters.False m.interior_interior) (takes characters.False m.interior_boundary) (takes characters.False m.boundary_interior) (takes characters.False m.boundary_boundary)
    (ap (takes characters.False) h.ii) (ap (takes characters.False) h.ib) (ap (takes characters.False) h.bi) (ap (takes characters.False) h.bb)
  where
    four : (a b c d : Bool) → a ≡ true → b ≡ true → c ≡ true → d ≡ true → (a && b && true && c && d && true && true && true && true) ≡ true
    four true true true true e f g k = refl
    four true true true false e f g k = absurd cc
    four true true false d e f g k = absurd cc
    four true false c d e f g k = absurd cc
    four false b c d e f g k = absurd cc

-- so Intersects, its opposite, doesn't hold
not_intersecting : (m : Matrix) → Apart m → not (like (codes "FF*FF****") m) ≡ true → ⊥
not_intersecting m h e = absurd (let f : not true ≡ true = sym (ap not (disjoint_like m h)) ∙ e in cc)

-- ---- a valid geometry with a position has a point that isn't exterior
-- a position on an edge of the lines
record Touched (ls : List (List Position)) : Type 0 where
  at : Position
  is_on : on_some ls (point_at at) ≡ true

-- lines of which none has one position alone, and that aren't all empty, have an edge, which holds its start
touched : (ls : List (List Position)) → ((i : ℕ) (a : Position) → slice_get ls i ≡ Some (a ∷ []) → ⊥) → (flat_map (λ line. line) ls ≡ [] → ⊥) → Touched ls
touched [] f n = absurd (n refl)
touched ([] ∷ ls) f n = let t = touched ls (λ i a. f (suc i) a) n in record { at = t.at; is_on = t.is_on }
touched ((a ∷ []) ∷ ls) f n = absurd (f 0 a refl)
touched ((a ∷ b ∷ rest) ∷ ls) f n = record {
  at = a;
  is_on = ap (λ (t : Bool). t || list_any (λ e. on e (point_at a)) (edges_of_lines ((b ∷ rest) ∷ ls))) (start_is_on (record { start = a; end = b }) (point_at a) (position_is_point a) (same_end a));
}

-- a point on the lines is in their interior or boundary
not_outside_lines : (ls : List (List Position)) (p : Point) → on_some ls p ≡ true → in_lines ls p ≢ Exterior
not_outside_lines ls p h e = go (is_odd_end ls p) (on_some ls p) h e
  where
    go : (s t : Bool) → t ≡ true → (if s then Boundary else if t then Interior else Exterior) ≡ Exterior → ⊥
    go true t h e = absurd cc
    go false true h e = absurd cc
    go false false h e = absurd cc

-- a point on the rings is in the boundary
not_outside_rings : (rs : List (List Position)) (p : Point) → on_some rs p ≡ true → in_rings rs p ≢ Exterior
not_outside_rings rs p h e = go (on_some rs p) (odd_above rs p) h e
  where
    go : (s t : Bool) → s ≡ true → (if s then Boundary else if t then Interior else Exterior) ≡ Exterior → ⊥
    go true t h e = absurd cc
    go false t h e = absurd cc

-- a listed position is in the interior
not_outside_points : (a : Position) (rest : List Position) → in_points (a ∷ rest) (point_at a) ≢ Exterior
not_outside_points a rest e = go (is_at (point_at a) a) (list_any (is_at (point_at a)) rest) (same_end a) e
  where
    go : (s t : Bool) → s ≡ true → (if s || t then Interior else Exterior) ≡ Exterior → ⊥
    go true t h e = absurd cc
    go false t h e = absurd cc

-- some position isn't in the exterior
record Inhabited (g : Geometry) : Type 0 where
  at : Position
  not_exterior : locate g (point_at at) ≢ Exterior

-- a valid geometry with a position has one that isn't in its exterior: a listed one, or one on an edge
inhabited : (g : Geometry) → IsValid g → (positions g ≡ [] → ⊥) → Inhabited g
inhabited (Geometry.Point None) v n = absurd (n refl)
inhabited (Geometry.Point (Some a)) v n = record { at = a; not_exterior = not_outside_points a [] }
inhabited (Geometry.MultiPoint []) v n = absurd (n refl)
inhabited (Geometry.MultiPoint (a ∷ rest)) v n = record { at = a; not_exterior = not_outside_points a rest }
inhabited (Geometry.LineString ps) v n = let t = touched (ps ∷ []) (λ i a e. v (TooFewPoints i) (a ∷ [], e, refl)) n in record { at = t.at; not_exterior = not_outside_lines (ps ∷ []) (point_at t.at) t.is_on }
inhabited (Geometry.MultiLineString ls) v n = let t = touched ls (λ i a e. v (TooFewPoints i) (a ∷ [], e, refl)) n in record { at = t.at; not_exterior = not_outside_lines ls (point_at t.at) t.is_on }
inhabited (Geometry.Polygon rs) v n = let t = touched rs (λ i a e. v (TooFewPoints i) (a ∷ [], e, refl)) n in record { at = t.at; not_exterior = not_outside_rings rs (point_at t.at) t.is_on }
inhabited (Geometry.MultiPolygon es) v n = let t = touched (joined_rings es) (λ i a e. v (TooFewPoints i) (a ∷ [], e, refl)) n in record { at = t.at; not_exterior = not_outside_rings (joined_rings es) (point_at t.at) t.is_on }

-- ---- equal geometries
-- neither geometry has a point in the exterior of the other
record Covering (m : Matrix) : Type 0 where
  ie : m.interior_exterior ≡ Empty
  be : m.boundary_exterior ≡ Empty
  ei : m.exterior_interior ≡ Empty
  eb : m.exterior_boundary ≡ Empty

-- the character F takes an empty cell alone
taken_by_false : (d : Dimension) → takes characters.False d ≡ true → d ≡ Empty
taken_by_false Empty h = refl
taken_by_false Zero h = absurd cc
taken_by_false One h = absurd cc
taken_by_false Two h = absurd cc

-- the pattern of Equals asks that neither has a point in the other's exterior
covering : (m : Matrix) → like (codes "**F**FFF*") m ≡ true → Covering m
covering m h = let t = four (takes characters.False m.interior_exterior) (takes characters.False m.boundary_exterior) (takes characters.False m.exterior_interior) (takes characters.False m.exterior_boundary) h in
    record { ie = taken_by_false m.interior_exterior t.0; be = taken_by_false m.boundary_exterior t.1; ei = taken_by_false m.exterior_interior t.2; eb = taken_by_false m.exterior_boundary t.3 }
  where
    four : (a b c d : Bool) → (true && true && a && true && true && b && c && d && true) ≡ true → (a ≡ true) × (b ≡ true) × (c ≡ true) × (d ≡ true)
    four true true true true e = (refl, refl, refl, refl)
    four true true true false e = absurd cc
    four true true false d e = absurd cc
    four true false c d e = absurd cc
    four false b c d e = absurd cc

-- a set of points of empty dimension has no point
no_point : (S : Point → Type 0) (d : Dimension) → HasDimension S d → d ≡ Empty → HasPoint S → ⊥
no_point S Two h e p = absurd cc
no_point S One h e p = absurd cc
no_point S Zero h e p = absurd cc
no_point S Empty h e p = h p

-- what isn't the first one's exterior has no point in the second one's exterior
outside_second : (m : Matrix) → Covering m → (l : Location) → l ≢ Exterior → cell m l Exterior ≡ Empty
outside_second m h Interior f = h.ie
outside_second m h Boundary f = h.be
outside_second m h Exterior f = absurd (f refl)

-- what isn't the second one's exterior has no point in the first one's exterior
outside_first : (m : Matrix) → Covering m → (l : Location) → l ≢ Exterior → cell m Exterior l ≡ Empty
outside_first m h Interior f = h.ei
outside_first m h Boundary f = h.eb
outside_first m h Exterior f = absurd (f refl)

inside_of : (l k : Location) → l ≡ k → (k ≡ Exterior → ⊥) → l ≢ Exterior
inside_of l k e f g = f (sym e ∙ g)

-- two valid geometries, the matrix of which matches that of equal ones, while their envelopes don't meet
record Equals (a b : Geometry) (m : Matrix) : Type 0 where
  first : IsValid a
  second : IsValid b
  is_matrix : IsMatrix a b m
  covers : Covering m
  separate : meets (envelope a) (envelope b) ≡ false

-- a point of the first would be one of the second, and then their envelopes would meet
first_empty : (a b : Geometry) (m : Matrix) → Equals a b m → Inhabited a → ⊥
first_empty a b m h i = go (locate b (point_at i.at)) refl
  where
    common_to : locate b (point_at i.at) ≢ Exterior → ⊥
    common_to g = not_both (meets (envelope a) (envelope b))
        (common_point_meets a b (valid_rings_are_closed a h.first) (valid_rings_are_closed b h.second) (point_at i.at) (position_is_point i.at) i.not_exterior g) h.separate

    go : (k : Location) → locate b (point_at i.at) ≡ k → ⊥
    go Interior e = common_to (inside_of (locate b (point_at i.at)) Interior e (λ g. absurd cc))
    go Boundary e = common_to (inside_of (locate b (point_at i.at)) Boundary e (λ g. absurd cc))
    go Exterior e = no_point (common a (locate a (point_at i.at)) b Exterior) (cell m (locate a (point_at i.at)) Exterior) (h.is_matrix (locate a (point_at i.at)) Exterior)
        (outside_second m h.covers (locate a (point_at i.at)) i.not_exterior) (record { p = point_at i.at; is_point = position_is_point i.at; within = (refl, e) })

-- the same of a point of the second
second_empty : (a b : Geometry) (m : Matrix) → Equals a b m → Inhabited b → ⊥
second_empty a b m h i = go (locate a (point_at i.at)) refl
  where
    common_to : locate a (point_at i.at) ≢ Exterior → ⊥
    common_to g = not_both (meets (envelope a) (envelope b))
        (common_point_meets a b (valid_rings_are_closed a h.first) (valid_rings_are_closed b h.second) (point_at i.at) (position_is_point i.at) g i.not_exterior) h.separate

    go : (k : Location) → locate a (point_at i.at) ≡ k → ⊥
    go Interior e = common_to (inside_of (locate a (point_at i.at)) Interior e (λ g. absurd cc))
    go Boundary e = common_to (inside_of (locate a (point_at i.at)) Boundary e (λ g. absurd cc))
    go Exterior e = no_point (common a Exterior b (locate b (point_at i.at))) (cell m Exterior (locate b (point_at i.at))) (h.is_matrix Exterior (locate b (point_at i.at)))
        (outside_first m h.covers (locate b (point_at i.at)) i.not_exterior) (record { p = point_at i.at; is_point = position_is_point i.at; within = (e, refl) })

-- so neither has a position; but two absent envelopes count as meeting
not_equal : (a b : Geometry) (m : Matrix) → Equals a b m → ⊥
not_equal a b m h = go (positions a) (positions b) refl refl
  where
    some_position : (ps : List Position) (x : Position) (rest : List Position) → ps ≡ x ∷ rest → ps ≡ [] → ⊥
    some_position ps x rest e f = absurd (let g : x ∷ rest ≡ [] = sym e ∙ f in cc)

    go : (ps qs : List Position) → positions a ≡ ps → positions b ≡ qs → ⊥
    go [] [] e f = not_both (meets (envelope a) (envelope b)) (ap₂ (λ (ps qs : List Position). meets (envelope_of_positions ps) (envelope_of_positions qs)) e f) h.separate
    go (x ∷ rest) qs e f = first_empty a b m h (inhabited a h.first (λ n. some_position (positions a) x rest e n))
    go [] (x ∷ rest) e f = second_empty a b m h (inhabited b h.second (λ n. some_position (positions b) x rest f n))

-- ---- all predicates
not_inside : Interior ≡ Exterior → ⊥
not_inside e = absurd cc

not_on : Boundary ≡ Exterior → ⊥
not_on e = absurd cc

-- a common point would lie in both envelopes, so geometries whose envelopes don't meet have none
apart : (a b : Geometry) (m : Matrix) → IsValid a → IsValid b → IsMatrix a b m → meets (envelope a) (envelope b) ≡ false → Apart m
apart a b m va vb h e = record { ii = empty Interior Interior not_inside not_inside; ib = empty Interior Boundary not_inside not_on; bi = empty Boundary Interior not_on not_inside; bb = empty Boundary Boundary not_on not_on }
  where
    empty : (l k : Location) → l ≢ Exterior → k ≢ Exterior → cell m l k ≡ Empty
    empty l k f g = nothing_common a b (valid_rings_are_closed a va) (valid_rings_are_closed b vb) e m h l k f g

-- a predicate that forces meeting holds of no two geometries without a common point, predicate by predicate
holds_of_none : (p : Predicate) (a b : Geometry) (m : Matrix) → forces_meeting p ≡ true → IsValid a → IsValid b → IsMatrix a b m → holds p (kind a) (kind b) m ≡ true
    → meets (envelope a) (envelope b) ≡ false → Apart m → ⊥
holds_of_none predicates.Equals a b m w va vb h k e n = not_equal a b m (record { first = va; second = vb; is_matrix = h; covers = covering m k; separate = e })
holds_of_none predicates.Disjoint a b m w va vb h k e n = absurd cc
holds_of_none predicates.Intersects a b m w va vb h k e n = not_intersecting m n k
holds_of_none predicates.Touches a b m w va vb h k e n = no_touch m n k
holds_of_none predicates.Crosses a b m w va vb h k e n = no_cross (kind a) (kind b) m n k
holds_of_none predicates.Within a b m w va vb h k e n = no_like (pattern_of_text (codes "T*F**F***")) m refl n k
holds_of_none predicates.Contains a b m w va vb h k e n = no_like (pattern_of_text (codes "T*F**F***")) (transposed m) refl (apart_transposed m n) k
holds_of_none predicates.Overlaps a b m w va vb h k e n = no_overlap (kind a) (kind b) m n k
holds_of_none (predicates.Relate p) a b m w va vb h k e n = no_match p m w n k

-- so where it holds the envelopes meet
pub predicate_forces_meeting : (p : Predicate) (a b : Geometry) (m : Matrix) → forces_meeting p ≡ true → IsValid a → IsValid b → IsMatrix a b m → holds p (kind a) (kind b) m ≡ true → meets (envelope a) (envelope b) ≡ true
predicate_forces_meeting p a b m w va vb h k = go (meets (envelope a) (envelope b)) refl
  where
    go : (c : Bool) → meets (envelope a) (envelope b) ≡ c → c ≡ true
    go true e = refl
    go false e = absurd (holds_of_none p a b m w va vb h k e (apart a b m va vb h e))
