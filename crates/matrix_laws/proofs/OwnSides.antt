-- Along an edge of a valid area, strictly between two of its points, one side is interior and the other exterior, the same at each point.
use Rattle.std.proofs.Common.{ℕ, pos, ◌≡◌, ◌≢◌, ◌⊎◌, inl, inr, Bool, true, false, ◌&&◌, if◌then◌else◌, int_lt, ℤ, refl, sym, ap, ap₂, subst, ◌∙◌, List, ◌++◌, Contains, Some, slice_get}
use Rattle.std.proofs.lemmas.Bool.{or_left, or_right, cases_eq}
use Rattle.std.proofs.lemmas.Option.{same_Some}
use Rattle.basics.proofs.Bools.{by_contraries}
use Rattle.geometry_model.specs.Points.{Position, Point, IsPoint, point_at}
use Rattle.geometry_model.specs.Geometries.{Edge, Geometry, kind, edges, edges_of_line, edges_of_lines, listed, rings, joined_rings}
use Rattle.geometry_model.specs.Sides.{side, on}
use Rattle.geometry_model.specs.Crossings.{exactly_one as xor, spans, strictly_above, odd_above, odd_at_or_above}
use Rattle.geometry_model.specs.Dimensions.{weighted}
use Rattle.geometry_model.specs.CutPoints.{IsCut}
use Rattle.geometry_model.specs.CutPoints.IsCut.{AtEnd}
use Rattle.geometry_model.specs.Locations.{is_at}
use Rattle.geometry_model.specs.Labels.{below, above, edges_of_both}
use Rattle.geometry_model.specs.Validity.{IsValid}
use Rattle.geometry_model.specs.declared.shapes.Kind.TheVariants as kinds
use Rattle.geometry_model.specs.declared.point_sets.Location.TheVariants.{Interior, Exterior}
use Rattle.geometry_laws.specs.RingLaws.{IsClosed}
use Rattle.geometry_laws.proofs.Each.{Each, Among, among_left}
use Rattle.geometry_laws.proofs.Hulls.{on_from_hull}
use Rattle.geometry_laws.proofs.RingParity.{each_from_all, Step, step_by_missing, step_along, parity_by_steps}
use Rattle.geometry_laws.proofs.PointOrder.{less_transitive}
use Rattle.geometry_laws.proofs.LineOrder.{area_on_line}
use Rattle.geometry_laws.proofs.Cuts.{among_from_contains, contains_of_among, hull_of_start, hull_of_end}
use Rattle.matrix_laws.specs.PolygonLaws.{ArePartedAs}
use Rattle.matrix_laws.proofs.Closing.{valid_rings_are_closed}
use Rattle.matrix_laws.proofs.Places.{Place, place_of}
use Rattle.matrix_laws.proofs.AreaFacts.{RingOf, ring_of}
use Rattle.matrix_laws.proofs.Parting.{flat, no_edge_of_ring, no_edge_of_others, each_ring, rings_part, sides_of_a_ring}
use Rattle.matrix_laws.specs.Gaps.{IsBetween}
use Rattle.matrix_laws.proofs.Between.{Span, wide, on_line, between_sum, no_end_between}
use Rattle.matrix_laws.proofs.Mostly.{sides_of_no_area}

-- ---- an edge of an area is one of its rings'
ring_edge : (a : Geometry) → kind a ≡ kinds.Area → (e : Edge) → Contains (edges a) e → Among e (edges_of_lines (rings a))
ring_edge (Geometry.Point o) k e c = absurd (let z : kinds.Point ≡ kinds.Area = k in cc)
ring_edge (Geometry.MultiPoint qs) k e c = absurd (let z : kinds.Point ≡ kinds.Area = k in cc)
ring_edge (Geometry.LineString l) k e c = absurd (let z : kinds.Line ≡ kinds.Area = k in cc)
ring_edge (Geometry.MultiLineString ls) k e c = absurd (let z : kinds.Line ≡ kinds.Area = k in cc)
ring_edge (Geometry.Polygon rs) k e c = among_from_contains (edges_of_lines rs) e c
ring_edge (Geometry.MultiPolygon es) k e c = among_from_contains (edges_of_lines (joined_rings es)) e c

-- at which place of which ring it lies
record RingPlace (a : Geometry) (e : Edge) : Type 0 where
  i : ℕ
  ring : List Position
  ring_at : slice_get (rings a) i ≡ Some ring
  j : ℕ
  edge_at : slice_get (edges_of_line ring) j ≡ Some e

-- each edge of the rings is at some place of some ring
ring_place : (a : Geometry) (e : Edge) → Among e (edges_of_lines (rings a)) → RingPlace a e
ring_place a e m = go (ring_of e (rings a) m)
  where
    both : (r : RingOf e (rings a)) → Place r.ring (rings a) → Place e (edges_of_line r.ring) → RingPlace a e
    both r p q = record { i = p.index; ring = r.ring; ring_at = p.there; j = q.index; edge_at = q.there }

    go : RingOf e (rings a) → RingPlace a e
    go r = both r (place_of r.ring (rings a) r.among) (place_of e (edges_of_line r.ring) r.holds)

-- ---- one side interior, the other exterior
-- strictly within an edge of a valid area's ring one side is interior and the other exterior
parted : (a : Geometry) → IsValid a → (e : Edge) → RingPlace a e → e.start.x ≢ e.end.x → (x : Point) → IsPoint x → on e x ≡ true → (is_at x e.start ≡ false) × (is_at x e.end ≡ false) → ArePartedAs (below a x) (above a x)
parted a v e r u x hx h n = (sides_of_a_ring a v r.i r.ring r.ring_at r.j e r.edge_at x hx h n.0 n.1 u).0

-- a point that is no cut is no end of the edge, so it is strictly within it
pub sides_of_own_edge : (a b : Geometry) → IsValid a → kind a ≡ kinds.Area → (e : Edge) → Contains (edges a) e → e.start.x ≢ e.end.x → (x : Point) → IsPoint x → on e x ≡ true
    → (IsCut (edges_of_both a b) (listed a ++ listed b) x → ⊥) → ArePartedAs (below a x) (above a x)
sides_of_own_edge a b v k e c u x hx h f = parted a v e (ring_place a e (ring_edge a k e c)) u x hx h (
  by_contraries (is_at x e.start) false (λ s. absurd (f (AtEnd hx e among (or_left (is_at x e.start) (is_at x e.end) s)))) refl,
  by_contraries (is_at x e.end) false (λ s. absurd (f (AtEnd hx e among (or_right (is_at x e.start) (is_at x e.end) s)))) refl,
)
  where
    among : Contains (edges_of_both a b) e
    among = contains_of_among e (edges_of_both a b) (among_left e (edges a) (edges b) (among_from_contains (edges a) e c))

-- two points of an edge with another between them are in order
span_of : (e : Edge) (p q x : Point) → IsPoint p → IsPoint q → on e p ≡ true → on e q ≡ true → IsBetween e p q x → Span e p q
span_of e p q x hp hq k l i = record { lesser = hp; greater = hq; lesser_on = k; greater_on = l; in_order = less_transitive p x q hp i.is_point hq i.after i.before }

-- a point between two others of the edge is no end of it, so it is strictly within it
pub sides_within_own_edge : (a : Geometry) → IsValid a → kind a ≡ kinds.Area → (e : Edge) → Contains (edges a) e → e.start.x ≢ e.end.x → (p q x : Point) → IsPoint p → IsPoint q → on e p ≡ true → on e q ≡ true → IsBetween e p q x
    → ArePartedAs (below a x) (above a x)
sides_within_own_edge a v k e c u p q x hp hq l m i = parted a v e (ring_place a e (ring_edge a k e c)) u x i.is_point i.is_on (no_end_between e p q x (span_of e p q x hp hq l m i) i)

-- ---- the same at each point
-- an edge that goes through the point isn't strictly above it
not_above : (e : Edge) (x : Point) → on e x ≡ true → strictly_above e x ≡ false
not_above e x h = ap (λ (z : ℤ). spans e x && int_lt z (pos 0)) (flat e x (on_line e x h)) ∙ none (spans e x)
  where
    none : (b : Bool) → b && int_lt (pos 0) (pos 0) ≡ false
    none true = refl
    none false = refl

-- from one point to another the edge itself runs along, and all other edges are missed
steps : (a : Geometry) → IsValid a → (e : Edge) → RingPlace a e → (p q x y : Point) → Span e p q → IsBetween e p q x → IsBetween e p q y → Each (Step x y) (edges_of_lines (rings a))
steps a v e r p q x y s i j = each_ring (Step x y) (rings a) (λ k t tk m d dm. at_ring k t tk m d dm (cases_eq k r.i))
  where
    start_line : side e.start e.end (point_at e.start) ≡ pos 0
    start_line = on_line e (point_at e.start) (on_from_hull e (point_at e.start) (hull_of_start e))

    end_line : side e.start e.end (point_at e.end) ≡ pos 0
    end_line = on_line e (point_at e.end) (on_from_hull e (point_at e.end) (hull_of_end e))

    along : Step x y e
    along = step_along x y e
        (area_on_line e.start e.end x y (point_at e.start) (wide e p q s) (on_line e x i.is_on) (on_line e y j.is_on) start_line)
        (area_on_line e.start e.end x y (point_at e.end) (wide e p q s) (on_line e x i.is_on) (on_line e y j.is_on) end_line)
        (not_above e x i.is_on ∙ sym (not_above e y j.is_on))

    missed : (d : Edge) → ((z : Point) → IsBetween e p q z → on d z ≡ false) → Step x y d
    missed d f = step_by_missing x y d i.is_point j.is_point (λ m n l. f (weighted m x n y) (between_sum e p q x y m n l i j))

    same_ring : (k : ℕ) (t : List Position) → k ≡ r.i → slice_get (rings a) k ≡ Some t → t ≡ r.ring
    same_ring k t w tk = same_Some t r.ring (sym tk ∙ ap (slice_get (rings a)) w ∙ r.ring_at)

    at_edge : (k : ℕ) (t : List Position) → k ≡ r.i → slice_get (rings a) k ≡ Some t → (m : ℕ) (d : Edge) → slice_get (edges_of_line t) m ≡ Some d → (m ≡ r.j) ⊎ (m ≡ r.j → ⊥) → Step x y d
    at_edge k t w tk m d dm (inl n) = subst (Step x y) (same_Some e d (sym r.edge_at ∙ ap₂ (λ (o : List Position) (l : ℕ). slice_get (edges_of_line o) l) (sym (same_ring k t w tk)) (sym n) ∙ dm)) along
    at_edge k t w tk m d dm (inr n) = missed d (λ z b. other z b (no_end_between e p q z s b))
      where
        other : (z : Point) → IsBetween e p q z → (is_at z e.start ≡ false) × (is_at z e.end ≡ false) → on d z ≡ false
        other z b o = no_edge_of_ring a v r.i r.ring r.ring_at r.j e r.edge_at z b.is_point b.is_on o.0 o.1 m d n (ap (λ (o : List Position). slice_get (edges_of_line o) m) (sym (same_ring k t w tk)) ∙ dm)

    at_ring : (k : ℕ) (t : List Position) → slice_get (rings a) k ≡ Some t → (m : ℕ) (d : Edge) → slice_get (edges_of_line t) m ≡ Some d → (k ≡ r.i) ⊎ (k ≡ r.i → ⊥) → Step x y d
    at_ring k t tk m d dm (inl w) = at_edge k t w tk m d dm (cases_eq m r.j)
    at_ring k t tk m d dm (inr n) = missed d (λ z b. no_edge_of_others a v r.i r.ring r.ring_at r.j e r.edge_at z b.is_point b.is_on k t n tk m d dm)

-- so the parity of the edges strictly above is the same at both points
odd_along : (a : Geometry) → IsValid a → (e : Edge) → RingPlace a e → (p q x y : Point) → Span e p q → IsBetween e p q x → IsBetween e p q y → odd_above (rings a) x ≡ odd_above (rings a) y
odd_along a v e r p q x y s i j = parity_by_steps (rings a) x y (each_from_all IsClosed (rings a) (valid_rings_are_closed a v)) (steps a v e r p q x y s i j)

-- of two parities of which exactly one is odd, one shows the other
other_parity : (s t u w : Bool) → xor s t ≡ true → xor u w ≡ true → s ≡ u → t ≡ w
other_parity true false true false e f g = refl
other_parity false true false true e f g = refl
other_parity true true u w e f g = absurd (let z : false ≡ true = e in cc)
other_parity false false u w e f g = absurd (let z : false ≡ true = e in cc)
other_parity s t true true e f g = absurd (let z : false ≡ true = f in cc)
other_parity s t false false e f g = absurd (let z : false ≡ true = f in cc)
other_parity true false false true e f g = absurd (cc)
other_parity false true true false e f g = absurd (cc)

-- at each point between exactly one of the two parities is odd, since the rings part there
part_at : (a : Geometry) → IsValid a → (e : Edge) → RingPlace a e → e.start.x ≢ e.end.x → (p q x : Point) → Span e p q → IsBetween e p q x → xor (odd_above (rings a) x) (odd_at_or_above (rings a) x) ≡ true
part_at a v e r u p q x s i = let n : (is_at x e.start ≡ false) × (is_at x e.end ≡ false) = no_end_between e p q x s i in rings_part a v r.i r.ring r.ring_at r.j e r.edge_at x i.is_point i.is_on n.0 n.1 u

-- so both parities, and with them both sides, are the same at both points
along_area : (a : Geometry) → IsValid a → (e : Edge) → RingPlace a e → e.start.x ≢ e.end.x → (p q x y : Point) → Span e p q → IsBetween e p q x → IsBetween e p q y
    → (below a x ≡ below a y) × (above a x ≡ above a y)
along_area a v e r u p q x y s i j = (
  ap (λ (t : Bool). if t then Interior else Exterior) (other_parity (odd_above (rings a) x) (odd_at_or_above (rings a) x) (odd_above (rings a) y) (odd_at_or_above (rings a) y)
      (part_at a v e r u p q x s i) (part_at a v e r u p q y s j) (odd_along a v e r p q x y s i j)),
  ap (λ (t : Bool). if t then Interior else Exterior) (odd_along a v e r p q x y s i j),
)

-- what is no area has exterior sides everywhere
along_others : (a : Geometry) (x y : Point) → kind a ≢ kinds.Area → (below a x ≡ below a y) × (above a x ≡ above a y)
along_others a x y n = ((sides_of_no_area a x n).0 ∙ sym (sides_of_no_area a y n).0, (sides_of_no_area a x n).1 ∙ sym (sides_of_no_area a y n).1)

-- a geometry is an area or not
area_or_not : (a : Geometry) → (kind a ≡ kinds.Area) ⊎ (kind a ≢ kinds.Area)
area_or_not (Geometry.Point o) = inr (λ k. let z : kinds.Point ≡ kinds.Area = k in cc)
area_or_not (Geometry.MultiPoint qs) = inr (λ k. let z : kinds.Point ≡ kinds.Area = k in cc)
area_or_not (Geometry.LineString l) = inr (λ k. let z : kinds.Line ≡ kinds.Area = k in cc)
area_or_not (Geometry.MultiLineString ls) = inr (λ k. let z : kinds.Line ≡ kinds.Area = k in cc)
area_or_not (Geometry.Polygon rs) = inl refl
area_or_not (Geometry.MultiPolygon es) = inl refl

-- so each side lies alike all along, whatever the kind
pub sides_along_own_edge : (a : Geometry) → IsValid a → (e : Edge) → Contains (edges a) e → e.start.x ≢ e.end.x → (p q x y : Point) → IsPoint p → IsPoint q → on e p ≡ true → on e q ≡ true → IsBetween e p q x → IsBetween e p q y
    → (below a x ≡ below a y) × (above a x ≡ above a y)
sides_along_own_edge a v e c u p q x y hp hq l m i j = go (area_or_not a)
  where
    go : (kind a ≡ kinds.Area) ⊎ (kind a ≢ kinds.Area) → (below a x ≡ below a y) × (above a x ≡ above a y)
    go (inl k) = along_area a v e (ring_place a e (ring_edge a k e c)) u p q x y (span_of e p q x hp hq l m i) i j
    go (inr n) = along_others a x y n
