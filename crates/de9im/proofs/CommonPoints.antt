-- Two geometries that share a point: where edges of both do, and what predicates hold of them.
use Rattle.std.proofs.Common.{◌≡◌, ◌≢◌, ◌⊎◌, inl, inr, refl, sym, ap, ◌∙◌, Bool, true, false, not, ◌&&◌, if◌then◌else◌}
use Rattle.std.proofs.Common.{Some, List, [], ◌∷◌, codes}
use Rattle.std.specs.List.{Contains, list_any}
use Rattle.std.proofs.lemmas.Bool.{false≢true}
use Rattle.geometry_model.specs.Dimensions.{HasDimension, IsMatrix, Matrix, cell, common, transposed}
use Rattle.geometry_model.specs.Envelopes.{envelope, meets}
use Rattle.geometry_model.specs.FirstFaults.{share_point}
use Rattle.geometry_model.specs.Geometries.{Edge, Geometry, edges, joined_rings, kind}
use Rattle.geometry_model.specs.Labels.{labelled_matrix}
use Rattle.geometry_model.specs.Locations.{in_lines, in_rings, is_odd_end, locate, on_some}
use Rattle.geometry_model.specs.Patterns.{takes}
use Rattle.geometry_model.specs.Points.{Position, Point, IsPoint, point_at}
use Rattle.geometry_model.specs.Predicates.{forces_meeting, holds, like}
use Rattle.geometry_model.specs.Sides.{on}
use Rattle.geometry_model.specs.Validity.{IsValid}
use Rattle.geometry_model.specs.declared.point_sets.Dimension.{Dimension}
use Rattle.geometry_model.specs.declared.point_sets.Dimension.TheVariants.{Empty, Zero, One, Two}
use Rattle.geometry_model.specs.declared.point_sets.Location.{Location}
use Rattle.geometry_model.specs.declared.point_sets.Location.TheVariants.{Interior, Boundary, Exterior}
use Rattle.geometry_model.specs.declared.relations.PatternCharacter.TheVariants as characters
use Rattle.geometry_model.specs.declared.relations.Predicate.{Predicate}
use Rattle.geometry_model.specs.declared.relations.Predicate.TheVariants as predicates
use Rattle.geometry_model.specs.declared.shapes.Kind.TheVariants as kinds
use Rattle.geometry_model.proofs.DimensionFacts.{is_false}
use Rattle.geometry_laws.proofs.Cuts.{contains_of_among}
use Rattle.geometry_laws.proofs.Each.{some_passed}
use Rattle.geometry_laws.proofs.RingParity.{position_is_point}
use Rattle.geometry_laws.proofs.SharedPoints.{shared_point_is_decided}
use Rattle.matrix_laws.proofs.Matrices.{labels_give_matrix}
use Rattle.matrix_laws.proofs.MeetingFacts.{predicate_forces_meeting}
use Rattle.matrix_laws.proofs.Shared.{start_on}
use Rattle.edge_boxes.specs.RingEdges.{edges_share}
use Rattle.de9im.specs.Deciding.{GeometriesShare, HasPointOutside, IsDecided, where_shared}
use Rattle.de9im.proofs.EdgePoints.{no_edges, own_point}

-- ---- a point on an edge of a geometry isn't in its exterior
on_lines : (ls : List (List Position)) (x : Point)
    → (in_lines ls x ≡ Interior) ⊎ ((kinds.Line ≡ kinds.Line) × (is_odd_end ls x ≡ true)) → in_lines ls x ≢ Exterior
on_lines ls x (inl is) out = absurd (let no : Interior ≡ Exterior = sym is ∙ out in cc)
on_lines ls x (inr end) out = absurd (let no : Boundary ≡ Exterior = sym is ∙ out in cc)
  where
    is : in_lines ls x ≡ Boundary
    is = ap (λ (t : Bool). if t then Boundary else if on_some ls x then Interior else Exterior) end.1

on_rings : {End : Type 0} (rs : List (List Position)) (x : Point)
    → (in_rings rs x ≡ Boundary) ⊎ ((kinds.Area ≡ kinds.Line) × End) → in_rings rs x ≢ Exterior
on_rings rs x (inl is) out = absurd (let no : Boundary ≡ Exterior = sym is ∙ out in cc)
on_rings rs x (inr end) out = absurd (let no : kinds.Area ≡ kinds.Line = end.0 in cc)

on_own_edge : (g : Geometry) (e : Edge) (x : Point) → Contains (edges g) e → on e x ≡ true → IsPoint x → locate g x ≢ Exterior
on_own_edge (Geometry.Point o) e x c h hx = no_edges e c
on_own_edge (Geometry.MultiPoint ps) e x c h hx = no_edges e c
on_own_edge (Geometry.LineString l) e x c h hx = on_lines (l ∷ []) x (own_point (Geometry.LineString l) e x c h hx)
on_own_edge (Geometry.MultiLineString ls) e x c h hx = on_lines ls x (own_point (Geometry.MultiLineString ls) e x c h hx)
on_own_edge (Geometry.Polygon rs) e x c h hx = on_rings rs x (own_point (Geometry.Polygon rs) e x c h hx)
on_own_edge (Geometry.MultiPolygon es) e x c h hx = on_rings (joined_rings es) x (own_point (Geometry.MultiPolygon es) e x c h hx)

-- so a point that an edge of one geometry shares with an edge of the other is in neither exterior
pub on_edges_of_both : (a b : Geometry) → edges_share (edges a) (edges b) ≡ true → GeometriesShare a b
on_edges_of_both a b share =
    let one = some_passed (λ e. list_any (share_point e) (edges b)) (edges a) share in
    let other = some_passed (share_point one.found) (edges b) one.passes in
    let shared = (shared_point_is_decided one.found other.found).0 other.passes in
    record {
      point = shared.at;
      is_point = shared.is_point;
      in_one = on_own_edge a one.found shared.at (contains_of_among one.found (edges a) one.among)
          shared.on_first shared.is_point;
      in_other = on_own_edge b other.found shared.at (contains_of_among other.found (edges b) other.among)
          shared.on_second shared.is_point;
    }

-- so is the start of an edge that isn't in the other's exterior
pub start_is_shared : (a b : Geometry) (e : Edge) → Contains (edges a) e → locate b (point_at e.start) ≢ Exterior
    → GeometriesShare a b
start_is_shared a b e own other = record {
  point = point_at e.start;
  is_point = position_is_point e.start;
  in_one = on_own_edge a e (point_at e.start) own (start_on e) (position_is_point e.start);
  in_other = other;
}

-- and it is shared the other way round
pub shared_turned : (a b : Geometry) → GeometriesShare a b → GeometriesShare b a
shared_turned a b s = record { point = s.point; is_point = s.is_point; in_one = s.in_other; in_other = s.in_one }

-- and the start of an edge in the other's exterior is in that alone
pub start_is_outside : (a b : Geometry) (e : Edge) → Contains (edges a) e → locate b (point_at e.start) ≡ Exterior
    → HasPointOutside a b
start_is_outside a b e own other = record {
  point = point_at e.start;
  is_point = position_is_point e.start;
  in_one = on_own_edge a e (point_at e.start) own (start_on e) (position_is_point e.start);
  outside = other;
}

-- ---- two geometries that share a point aren't disjoint
-- whether a cell is F
abbrev pub is_empty : Dimension → Bool
is_empty d = takes characters.False d

-- a cell whose parts share a point isn't
shown : (a b : Geometry) (l k : Location) (d : Dimension) (p : Point) → IsPoint p → locate a p ≡ l → locate b p ≡ k
    → HasDimension (common a l b k) d → is_empty d ≡ false
shown a b l k Empty p is one other none = absurd (none (record { p = p; is_point = is; within = (one, other) }))
shown a b l k Zero p is one other some = refl
shown a b l k One p is one other some = refl
shown a b l k Two p is one other some = refl

-- the four cells of parts that aren't exteriors are F
abbrev all_empty : Matrix → Bool
all_empty m =
    is_empty m.interior_interior && is_empty m.interior_boundary
    && is_empty m.boundary_interior && is_empty m.boundary_boundary

-- where they aren't all, the pattern of Disjoint doesn't match
no_disjoint : (m : Matrix) → all_empty m ≡ false → like (codes "FF*FF****") m ≡ false
no_disjoint m e =
    go (is_empty m.interior_interior) (is_empty m.interior_boundary)
    (is_empty m.boundary_interior) (is_empty m.boundary_boundary) e
  where
    go : (a b c d : Bool) → (a && b && c && d) ≡ false → (a && b && true && c && d && true && true && true && true) ≡ false
    go true true true true e = absurd cc
    go true true true false e = refl
    go true true false d e = refl
    go true false c d e = refl
    go false b c d e = refl

-- one of them isn't
not_all : (m : Matrix) (l k : Location) → l ≢ Exterior → k ≢ Exterior → is_empty (cell m l k) ≡ false → all_empty m ≡ false
not_all m Interior Interior one other is = rw is refl
not_all m Interior Boundary one other is = go (is_empty m.interior_interior)
  where
    go : (a : Bool) → (a && is_empty m.interior_boundary && is_empty m.boundary_interior && is_empty m.boundary_boundary) ≡ false
    go true = rw is refl
    go false = refl
not_all m Boundary Interior one other is = go (is_empty m.interior_interior) (is_empty m.interior_boundary)
  where
    go : (a b : Bool) → (a && b && is_empty m.boundary_interior && is_empty m.boundary_boundary) ≡ false
    go true true = rw is refl
    go true false = refl
    go false b = refl
not_all m Boundary Boundary one other is =
    go (is_empty m.interior_interior) (is_empty m.interior_boundary) (is_empty m.boundary_interior)
  where
    go : (a b c : Bool) → (a && b && c && is_empty m.boundary_boundary) ≡ false
    go true true true = is
    go true true false = refl
    go true false c = refl
    go false b c = refl
not_all m Exterior k one other is = absurd (one refl)
not_all m Interior Exterior one other is = absurd (other refl)
not_all m Boundary Exterior one other is = absurd (other refl)

-- so it doesn't match where a point is in neither exterior
not_disjoint : (a b : Geometry) (m : Matrix) → IsMatrix a b m → GeometriesShare a b → like (codes "FF*FF****") m ≡ false
not_disjoint a b m is shared = no_disjoint m (not_all m l k shared.in_one shared.in_other
    (shown a b l k (cell m l k) shared.point shared.is_point refl refl (is l k)))
  where
    l : Location
    l = locate a shared.point

    k : Location
    k = locate b shared.point

-- ---- what is known of a predicate
pub known_where_shared : (p : Predicate) (a b : Geometry) (answer : Bool) → where_shared p ≡ Some answer
    → IsValid a → IsValid b → GeometriesShare a b → IsDecided p a b answer
known_where_shared p a b answer known va vb shared =
    record {
      matrix = labelled_matrix a b;
      is_matrix = is;
      exact = go p answer known (not_disjoint a b (labelled_matrix a b) is shared);
    }
  where
    is : IsMatrix a b (labelled_matrix a b)
    is = labels_give_matrix a b va vb

    go : (p : Predicate) (answer : Bool) → where_shared p ≡ Some answer → like (codes "FF*FF****") (labelled_matrix a b) ≡ false
        → answer ≡ holds p (kind a) (kind b) (labelled_matrix a b)
    go predicates.Disjoint false known fails = sym fails
    go predicates.Disjoint true known fails = absurd cc
    go predicates.Intersects true known fails = sym (ap not fails)
    go predicates.Intersects false known fails = absurd cc
    go predicates.Equals answer known fails = absurd cc
    go predicates.Touches answer known fails = absurd cc
    go predicates.Crosses answer known fails = absurd cc
    go predicates.Within answer known fails = absurd cc
    go predicates.Contains answer known fails = absurd cc
    go predicates.Overlaps answer known fails = absurd cc
    go (predicates.Relate pattern) answer known fails = absurd cc

-- ---- one with a point in the other's exterior alone
-- the cells of the first geometry's parts with that exterior aren't both F
pub leaves : (a b : Geometry) (m : Matrix) → IsMatrix a b m → HasPointOutside a b
    → (is_empty m.interior_exterior && is_empty m.boundary_exterior) ≡ false
leaves a b m is out = go (locate a out.point) refl out.in_one
  where
    second : (c : Bool) → (c && false) ≡ false
    second true = refl
    second false = refl

    go : (l : Location) → locate a out.point ≡ l → l ≢ Exterior → (is_empty m.interior_exterior && is_empty m.boundary_exterior)
        ≡ false
    go Interior e n = rw (shown a b Interior Exterior m.interior_exterior out.point out.is_point e out.outside
        (is Interior Exterior)) refl
    go Boundary e n = rw (shown a b Boundary Exterior m.boundary_exterior out.point out.is_point e out.outside
        (is Boundary Exterior))
        (second (is_empty m.interior_exterior))
    go Exterior e n = absurd (n refl)

-- nor are those of the second one's parts with the first one's exterior
pub leaves_turned : (a b : Geometry) (m : Matrix) → IsMatrix a b m → HasPointOutside b a
    → (is_empty m.exterior_interior && is_empty m.exterior_boundary) ≡ false
leaves_turned a b m is out = go (locate b out.point) refl out.in_one
  where
    second : (c : Bool) → (c && false) ≡ false
    second true = refl
    second false = refl

    go : (l : Location) → locate b out.point ≡ l → l ≢ Exterior → (is_empty m.exterior_interior && is_empty m.exterior_boundary)
        ≡ false
    go Interior e n = rw (shown a b Exterior Interior m.exterior_interior out.point out.is_point out.outside e
        (is Exterior Interior)) refl
    go Boundary e n = rw (shown a b Exterior Boundary m.exterior_boundary out.point out.is_point out.outside e
        (is Exterior Boundary))
        (second (is_empty m.exterior_interior))
    go Exterior e n = absurd (n refl)

-- so the pattern of Within doesn't match, nor does that of Equals
not_within : (m : Matrix) → (is_empty m.interior_exterior && is_empty m.boundary_exterior) ≡ false → like (codes "T*F**F***") m
    ≡ false
not_within m = go (takes characters.True m.interior_interior) (is_empty m.interior_exterior) (is_empty m.boundary_exterior)
  where
    go : (a c f : Bool) → (c && f) ≡ false → (a && true && c && true && true && f && true && true && true) ≡ false
    go false c f e = refl
    go true false f e = refl
    go true true false e = refl
    go true true true e = absurd cc

not_equal : (m : Matrix) → (is_empty m.interior_exterior && is_empty m.boundary_exterior) ≡ false → like (codes "**F**FFF*") m ≡
    false
not_equal m = go (is_empty m.interior_exterior) (is_empty m.boundary_exterior) (is_empty m.exterior_interior)
    (is_empty m.exterior_boundary)
  where
    go : (c f g h : Bool) → (c && f) ≡ false → (true && true && c && true && true && f && g && h && true) ≡ false
    go false f g h e = refl
    go true false g h e = refl
    go true true g h e = absurd cc

not_equal_turned : (m : Matrix) → (is_empty m.exterior_interior && is_empty m.exterior_boundary) ≡ false
    → like (codes "**F**FFF*") m ≡ false
not_equal_turned m = go (is_empty m.interior_exterior) (is_empty m.boundary_exterior) (is_empty m.exterior_interior)
    (is_empty m.exterior_boundary)
  where
    go : (c f g h : Bool) → (g && h) ≡ false → (true && true && c && true && true && f && g && h && true) ≡ false
    go false f g h e = refl
    go true false g h e = refl
    go true true false h e = refl
    go true true true false e = refl
    go true true true true e = absurd cc

-- the predicate doesn't hold of the label matrix, which is theirs
fails : (p : Predicate) (a b : Geometry) → IsValid a → IsValid b → holds p (kind a) (kind b) (labelled_matrix a b) ≡ false
    → IsDecided p a b false
fails p a b va vb h = record { matrix = labelled_matrix a b; is_matrix = labels_give_matrix a b va vb; exact = sym h }

pub not_within_where_outside : (a b : Geometry) → IsValid a → IsValid b → HasPointOutside a b → IsDecided predicates.Within a b
    false
not_within_where_outside a b va vb out = fails predicates.Within a b va vb
    (not_within (labelled_matrix a b) (leaves a b (labelled_matrix a b) (labels_give_matrix a b va vb) out))

pub not_containing_where_outside : (a b : Geometry) → IsValid a → IsValid b → HasPointOutside b a
    → IsDecided predicates.Contains a b false
not_containing_where_outside a b va vb out = fails predicates.Contains a b va vb
    (not_within (transposed (labelled_matrix a b)) (leaves_turned a b (labelled_matrix a b) (labels_give_matrix a b va vb) out))

pub not_equal_where_outside : (a b : Geometry) → IsValid a → IsValid b → HasPointOutside a b ⊎ HasPointOutside b a
    → IsDecided predicates.Equals a b false
not_equal_where_outside a b va vb (inl out) = fails predicates.Equals a b va vb
    (not_equal (labelled_matrix a b) (leaves a b (labelled_matrix a b) (labels_give_matrix a b va vb) out))
not_equal_where_outside a b va vb (inr out) = fails predicates.Equals a b va vb
    (not_equal_turned (labelled_matrix a b) (leaves_turned a b (labelled_matrix a b) (labels_give_matrix a b va vb) out))

-- ---- where envelopes don't meet
pub fails_where_far : (p : Predicate) (a b : Geometry) → forces_meeting p ≡ true → IsValid a → IsValid b
    → meets (envelope a) (envelope b) ≡ false → IsDecided p a b false
fails_where_far p a b forces va vb far = fails p a b va vb (is_false (holds p (kind a) (kind b) (labelled_matrix a b))
    (λ h. false≢true (sym far ∙ predicate_forces_meeting p a b (labelled_matrix a b) forces va vb (labels_give_matrix a b va vb)
    h)))

-- so two such geometries are disjoint
pub disjoint_where_far : (a b : Geometry) → IsValid a → IsValid b → meets (envelope a) (envelope b) ≡ false
    → IsDecided predicates.Disjoint a b true
disjoint_where_far a b va vb far =
    let apart = fails_where_far predicates.Intersects a b refl va vb far in
    record {
      matrix = apart.matrix;
      is_matrix = apart.is_matrix;
      exact = turned (like (codes "FF*FF****") apart.matrix) apart.exact;
    }
  where
    turned : (x : Bool) → false ≡ not x → true ≡ x
    turned true e = refl
    turned false e = absurd cc
