-- What rings and polygons share lies in their envelopes.
use Rattle.std.proofs.Common.{◌≡◌, ◌≢◌, refl, sym, ap, ap₂, ◌∙◌, ℕ, zero, suc, ◌+◌, ◌<◌, ℤ, Bool, true, false, ◌||◌, if◌then◌else◌, List, [], ◌∷◌, ◌++◌, map, take, flat_map, length, Option, Some, None, slice_get, append-nil, arith, All}
use Rattle.std.specs.Int.{int_min, int_max}
use Rattle.std.specs.List.{list_any}
use Rattle.std.proofs.lemmas.Int.{ints, clamps}
use Rattle.std.proofs.lemmas.List.{map-append}
use Rattle.std.proofs.lemmas.Grind.{flat_map-append}
use Rattle.std.proofs.lemmas.Bool.{or_right}
use Rattle.geometry_model.specs.Points.{Position, Point, IsPoint, point_at}
use Rattle.geometry_model.specs.Geometries.{Geometry, Edge, edges_of_lines, lines, rings}
use Rattle.geometry_model.specs.Sides.{on}
use Rattle.geometry_model.specs.Crossings.{odd_above}
use Rattle.geometry_model.specs.Locations.{is_at, locate, on_some}
use Rattle.geometry_model.specs.Envelopes.{Envelope, envelope_at, joined, with_position, envelope_of_positions, meets}
use Rattle.geometry_model.specs.Validity.{inside, inside_element}
use Rattle.geometry_model.specs.FirstFaults.{share_point, rings_share, elements_share}
use Rattle.geometry_model.specs.declared.point_sets.Location.TheVariants.{Interior, Boundary, Exterior}
use Rattle.geometry_laws.specs.RingLaws.{IsClosed}
use Rattle.geometry_laws.specs.PieceLaws.{HasClosedRings}
use Rattle.geometry_laws.proofs.PointOrder.{same_reflexive}
use Rattle.matrix_laws.proofs.Outside.{common_point_meets}
use Rattle.geometry_laws.proofs.SharedPoints.{shared_point_is_decided}
use Rattle.edge_boxes.specs.RingEdges.{edges_share}
use Rattle.edge_boxes.proofs.Runs.{polygons_by_their_edges}
use Rattle.validity.specs.Neighbours.{either_envelope, element_envelope}
use Rattle.validity.proofs.OutlineFacts.{taken}

-- ---- one more of a mapped list
-- a list made part by part, with what the next part gives at its end, is made of one part more
pub mapped_next : {A B : Type 0} (f : A → B) (xs : List A) (m : ℕ) (x : A) (items new : List B) → slice_get xs m ≡ Some x → items ≡ map f (take m xs) → new ≡ items ++ f x ∷ [] → new ≡ map f (take (m + 1) xs)
mapped_next f xs m x items new is before grew = grew ∙ ap (λ l. l ++ f x ∷ []) before ∙ sym (ap (map f) (taken xs m x is) ∙ map-append f (take m xs) (x ∷ []))

-- a geometry that has a ring is an area, and the lines of an area are its rings
pub rings_are_lines : (g : Geometry) (i : ℕ) → i < length (rings g) → rings g ≡ lines g
rings_are_lines (Geometry.Point p) i h = refl
rings_are_lines (Geometry.MultiPoint ps) i h = refl
rings_are_lines (Geometry.LineString ps) i h = absurd (omega (arith, h))
rings_are_lines (Geometry.MultiLineString ls) i h = absurd (omega (arith, h))
rings_are_lines (Geometry.Polygon rs) i h = refl
rings_are_lines (Geometry.MultiPolygon es) i h = refl

-- ---- the envelope of two lists
-- envelopes join in any grouping, since least and greatest numbers do
joined_again : (e f g : Envelope) → joined e (joined f g) ≡ joined (joined e f) g
joined_again e f g = λ i. record {
  least_x = least e.least_x f.least_x g.least_x i;
  greatest_x = greatest e.greatest_x f.greatest_x g.greatest_x i;
  least_y = least e.least_y f.least_y g.least_y i;
  greatest_y = greatest e.greatest_y f.greatest_y g.greatest_y i;
}
  where
    least : (x y z : ℤ) → int_min x (int_min y z) ≡ int_min (int_min x y) z
    least x y z = omega (arith, ints, clamps)

    greatest : (x y z : ℤ) → int_max x (int_max y z) ≡ int_max (int_max x y) z
    greatest x y z = omega (arith, ints, clamps)

-- a position taken into the envelope of two lists may as well be taken into the first one's
with_either : (a : Position) (o p : Option Envelope) → Some (with_position a (either_envelope o p)) ≡ either_envelope (Some (with_position a o)) p
with_either a None None = refl
with_either a None (Some f) = refl
with_either a (Some e) None = refl
with_either a (Some e) (Some f) = ap Some (joined_again (envelope_at a) e f)

-- the envelope of two lists together joins their envelopes, since positions are taken in one by one
pub both_envelopes : (ps qs : List Position) → envelope_of_positions (ps ++ qs) ≡ either_envelope (envelope_of_positions ps) (envelope_of_positions qs)
both_envelopes [] qs = refl
both_envelopes (p ∷ ps) qs = ap (λ o. Some (with_position p o)) (both_envelopes ps qs) ∙ with_either p (envelope_of_positions ps) (envelope_of_positions qs)

-- a polygon's envelope is made ring by ring: one more ring joins its own
pub element_next : (rs : List (List Position)) (m : ℕ) (r : List Position) (old new : Option Envelope) → slice_get rs m ≡ Some r → old ≡ element_envelope (take m rs) → new ≡ either_envelope old (envelope_of_positions r)
    → new ≡ element_envelope (take (m + 1) rs)
element_next rs m r old new is before grew = grew ∙ ap (λ o. either_envelope o (envelope_of_positions r)) before
    ∙ sym (both_envelopes (flat_map (λ (ring : List Position). ring) (take m rs)) r)
    ∙ sym (ap element_envelope (taken rs m r is) ∙ ap envelope_of_positions (flat_map-append (λ (ring : List Position). ring) (take m rs) (r ∷ [])
    ∙ ap (λ l. flat_map (λ (ring : List Position). ring) (take m rs) ++ l) (append-nil r)))

-- ---- edges with a common point
-- some point is on an edge of the first list and on one of the second
record Shared (es fs : List Edge) : Type 0 where
  at : Point
  is_point : IsPoint at
  on_first : list_any (λ (e : Edge). on e at) es ≡ true
  on_second : list_any (λ (e : Edge). on e at) fs ≡ true

-- an edge that shares a point with one of a list: the point is on both, since the test decides exactly that
shared_by_one : (e : Edge) (fs : List Edge) → list_any (share_point e) fs ≡ true → Shared (e ∷ []) fs
shared_by_one e [] h = absurd cc
shared_by_one e (f ∷ fs) h = go (share_point e f) refl (shared_by_one e fs) h
  where
    go : (b : Bool) → share_point e f ≡ b → (list_any (share_point e) fs ≡ true → Shared (e ∷ []) fs) → b || list_any (share_point e) fs ≡ true → Shared (e ∷ []) (f ∷ fs)
    go true is rest h = let w = (shared_point_is_decided e f).0 is in record {
      at = w.at;
      is_point = w.is_point;
      on_first = ap (λ (b : Bool). b || false) w.on_first;
      on_second = ap (λ (b : Bool). b || list_any (λ (d : Edge). on d w.at) fs) w.on_second;
    }
    go false is rest h = let w = rest h in record {
      at = w.at;
      is_point = w.is_point;
      on_first = w.on_first;
      on_second = or_right (on f w.at) (list_any (λ (d : Edge). on d w.at) fs) w.on_second;
    }

or_none : (a : Bool) → a || false ≡ true → a ≡ true
or_none true h = refl
or_none false h = h

-- where the test finds two edges, one of each list, that share a point, there is such a point
shared_by_all : (es fs : List Edge) → edges_share es fs ≡ true → Shared es fs
shared_by_all [] fs h = absurd cc
shared_by_all (e ∷ es) fs h = go (list_any (share_point e) fs) refl (shared_by_all es fs) h
  where
    go : (b : Bool) → list_any (share_point e) fs ≡ b → (edges_share es fs ≡ true → Shared es fs) → b || edges_share es fs ≡ true → Shared (e ∷ es) fs
    go true is rest h = let w = shared_by_one e fs is in record {
      at = w.at;
      is_point = w.is_point;
      on_first = ap (λ (b : Bool). b || list_any (λ (d : Edge). on d w.at) es) (or_none (on e w.at) w.on_first);
      on_second = w.on_second;
    }
    go false is rest h = let w = rest h in record {
      at = w.at;
      is_point = w.is_point;
      on_first = or_right (on e w.at) (list_any (λ (d : Edge). on d w.at) es) w.on_first;
      on_second = w.on_second;
    }

-- ---- points that aren't exterior
-- a point on a ring is in the polygon's boundary, so it isn't exterior
on_is_boundary : (d : List (List Position)) (p : Point) → on_some d p ≡ true → locate (Geometry.Polygon d) p ≢ Exterior
on_is_boundary d p h is = let b : Boundary ≡ Exterior = sym (ap (λ (t : Bool). if t then Boundary else if odd_above d p then Interior else Exterior) h) ∙ is in cc

-- a point with an odd number of edges above it is in the boundary or in the interior, so it isn't exterior
odd_is_not_exterior : (d : List (List Position)) (p : Point) → odd_above d p ≡ true → locate (Geometry.Polygon d) p ≢ Exterior
odd_is_not_exterior d p h is = go (on_some d p) (sym (ap (λ (t : Bool). if on_some d p then Boundary else if t then Interior else Exterior) h) ∙ is)
  where
    go : (b : Bool) → (if b then Boundary else Interior) ≡ Exterior → ⊥
    go true h = cc
    go false h = cc

-- polygons that share a point have envelopes that meet
pub sharing_meet : (d e : List (List Position)) → All IsClosed d → All IsClosed e → elements_share d e ≡ true → meets (element_envelope e) (element_envelope d) ≡ true
sharing_meet d e cd ce h = let w = shared_by_all (edges_of_lines d) (edges_of_lines e) (sym (polygons_by_their_edges d e) ∙ h) in
    common_point_meets (Geometry.Polygon e) (Geometry.Polygon d) ce cd w.at w.is_point (on_is_boundary e w.at w.on_second) (on_is_boundary d w.at w.on_first)

-- a position of a list is in the envelope of the list
listed_not_exterior : (p : Position) (ps : List Position) → locate (Geometry.MultiPoint (p ∷ ps)) (point_at p) ≢ Exterior
listed_not_exterior p ps is = let i : Interior ≡ Exterior = sym (ap (λ (t : Bool). if t || list_any (is_at (point_at p)) ps then Interior else Exterior) (same_reflexive (point_at p))) ∙ is in cc

-- listed points have no rings that could be open
none_closed : (ps : List Position) → HasClosedRings (Geometry.MultiPoint ps)
none_closed ps i d h = absurd (omega (arith, h))

-- of polygons of which one is inside the other the envelopes meet
pub inside_meet : (d e : List (List Position)) → All IsClosed e → inside_element e d ≡ true → meets (element_envelope e) (element_envelope d) ≡ true
inside_meet [] e ce h = absurd cc
inside_meet ([] ∷ holes) e ce h = absurd cc
inside_meet ((p ∷ ps) ∷ holes) e ce h = let qs = (p ∷ ps) ++ flat_map (λ (ring : List Position). ring) holes in
    ap (λ l. meets (element_envelope e) (envelope_of_positions l)) (sym (append-nil qs))
    ∙ common_point_meets (Geometry.Polygon e) (Geometry.MultiPoint qs) ce (none_closed qs) (point_at p) positive (odd_is_not_exterior e (point_at p) h) (listed_not_exterior p (ps ++ flat_map (λ (ring : List Position). ring) holes))
  where
    positive : IsPoint (point_at p)
    positive = omega (arith, ints)

-- ---- the same of single rings
one_closed : (r : List Position) → IsClosed r → All IsClosed (r ∷ [])
one_closed r c zero d h = c
one_closed r c (suc i) d h = absurd (omega (arith, h))

one_envelope : (r : List Position) → element_envelope (r ∷ []) ≡ envelope_of_positions r
one_envelope r = ap envelope_of_positions (append-nil r)

-- rings that share a point have envelopes that meet: each taken as a polygon of its own
pub sharing_rings_meet : (r s : List Position) → IsClosed r → IsClosed s → rings_share r s ≡ true → meets (envelope_of_positions s) (envelope_of_positions r) ≡ true
sharing_rings_meet r s cr cs h = ap₂ meets (sym (one_envelope s)) (sym (one_envelope r))
    ∙ sharing_meet (r ∷ []) (s ∷ []) (one_closed r cr) (one_closed s cs) (ap (λ (b : Bool). (b || false) || false) h)

-- a ring inside another is so too where both are taken as polygons of one ring
one_inside : (outer ring : List Position) → inside outer ring ≡ true → inside_element (outer ∷ []) (ring ∷ []) ≡ true
one_inside outer [] h = h
one_inside outer (p ∷ ps) h = h

-- of two rings of which one is inside the other the envelopes meet
pub inside_rings_meet : (outer ring : List Position) → IsClosed outer → inside outer ring ≡ true → meets (envelope_of_positions outer) (envelope_of_positions ring) ≡ true
inside_rings_meet outer ring c h = ap₂ meets (sym (one_envelope outer)) (sym (one_envelope ring)) ∙ inside_meet (ring ∷ []) (outer ∷ []) (one_closed outer c) (one_inside outer ring h)
