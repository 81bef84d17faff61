-- Of a valid geometry: its interior, boundary and exterior lie by its rings.
use Rattle.std.proofs.Common.{◌≡◌, ◌≢◌, ◌⊎◌, inl, inr, refl, subst, ◌∙◌, ℕ, ◌+◌, ◌<◌, arith, List, [], ◌∷◌, Contains, Some, None, slice_get}
use Rattle.geometry_model.specs.Points.{Position}
use Rattle.geometry_model.specs.Geometries.{Geometry, Polygon, edges, edges_of_line, elements, listed, rings}
use Rattle.geometry_model.specs.Dimensions.{weighted}
use Rattle.geometry_model.specs.Locations.{locate}
use Rattle.geometry_model.specs.Validity.{IsValid}
use Rattle.geometry_model.specs.declared.point_sets.Location.{Location}
use Rattle.geometry_model.specs.declared.point_sets.Location.TheVariants.{Interior, Boundary, Exterior}
use Rattle.geometry_laws.specs.RingLaws.{IsClosed, Misses}
use Rattle.geometry_laws.proofs.Cuts.{among_from_contains, contains_of_among}
use Rattle.geometry_laws.proofs.RingParity.{each_from_all}
use Rattle.matrix_laws.specs.PolygonLaws.{PassesBy}
use Rattle.matrix_laws.proofs.AreaFacts.{interior_is_of_an_element, never_in_two}
use Rattle.matrix_laws.proofs.Closing.{valid_rings_are_closed}
use Rattle.matrix_laws.proofs.Holes.{holes_are_cut, hole_ring_is_inside}
use Rattle.matrix_laws.proofs.OneElement.{element_is_valid, no_pair, only}
use Rattle.matrix_laws.proofs.Outside.{outside_is_exterior}
use Rattle.matrix_laws.proofs.Parting.{rings_part, sides_of_a_ring}
use Rattle.matrix_laws.proofs.Places.{place_from_contains}
use Rattle.matrix_laws.proofs.Stretch.{stretch_stays}
use Rattle.validity.specs.PolygonPromises.{HolesAreCutOut, HolesAreInside, InteriorByElements, ElementsAreApart, LiesIn, StretchesStay, OutsideIsExterior, RingsPart, RingsHaveSides}

-- each polygon of a valid geometry is valid by itself
element_valid : (g : Geometry) → IsValid g → (rs : List (List Position)) → Contains (elements g) rs → IsValid (Polygon rs)
element_valid g v rs c = element_is_valid g v rs (among_from_contains (elements g) rs c)

-- a polygon's interior is the inside of its outer ring without its holes, since these lie in it and neither meet nor nest
pub holes_are_cut_out : (g : Geometry) → IsValid g → HolesAreCutOut g
holes_are_cut_out g v outer holes c p hp off = holes_are_cut outer holes (element_valid g v (outer ∷ holes) c) p hp off

-- a hole's first position is inside the outer ring and the two don't meet, so all of the hole's ring is inside
pub holes_are_inside : (g : Geometry) → IsValid g → HolesAreInside g
holes_are_inside g v outer hole holes c h e m p hp k = hole_ring_is_inside outer holes (element_valid g v (outer ∷ holes) c) hole (among_from_contains holes hole h) p hp e (among_from_contains (edges_of_line hole) e m) k

-- ---- the interior of an area is those of its elements
-- a point is in an area's interior exactly where it is in that of one polygon, since nowhere two of them overlap
pub interior_by_elements : (g : Geometry) → IsValid g → InteriorByElements g
interior_by_elements (Geometry.Point o) v k p hp = absurd cc
interior_by_elements (Geometry.MultiPoint qs) v k p hp = absurd cc
interior_by_elements (Geometry.LineString l) v k p hp = absurd cc
interior_by_elements (Geometry.MultiLineString ls) v k p hp = absurd cc
interior_by_elements (Geometry.Polygon rs) v k p hp = (λ e. (rs, contains_of_among rs (rs ∷ []) (inl refl), e), λ r. back r)
  where
    back : (d : List (List Position)) × Contains (rs ∷ []) d × (locate (Polygon d) p ≡ Interior) → locate (Polygon rs) p ≡ Interior
    back (d, c, e) = subst (λ q. locate (Polygon q) p ≡ Interior) (only d rs (among_from_contains (rs ∷ []) d c)) e
interior_by_elements (Geometry.MultiPolygon es) v k p hp = interior_is_of_an_element es v p hp

nothing_there : {X : Type 0} {A : Type 0} (i : ℕ) (x : X) → slice_get [] i ≡ Some x → A
nothing_there i x e = absurd (let z : None ≡ Some x = e in cc)

-- the rings of two polygons don't meet and neither is inside the other, so they have no common point
pub elements_are_apart : (g : Geometry) → IsValid g → ElementsAreApart g
elements_are_apart (Geometry.Point o) v i j d e n a b p hp f = nothing_there i d a
elements_are_apart (Geometry.MultiPoint qs) v i j d e n a b p hp f = nothing_there i d a
elements_are_apart (Geometry.LineString l) v i j d e n a b p hp f = nothing_there i d a
elements_are_apart (Geometry.MultiLineString ls) v i j d e n a b p hp f = nothing_there i d a
elements_are_apart (Geometry.Polygon rs) v i j d e n a b p hp f = absurd (no_pair rs d e i j n a b)
elements_are_apart (Geometry.MultiPolygon es) v i j d e n a b p hp f = never_in_two es v i j d e n a b p hp f

-- ---- all points of a stretch lie where its start does, and none in the boundary
-- a stretch that meets no edge and no listed point crosses no boundary, so it stays where it starts
pub stretches_stay : (g : Geometry) → IsValid g → StretchesStay g
stretches_stay g v p q hp hq h k = go (locate g p) refl
  where
    stays : (m n : ℕ) → 0 < m + n → (locate g (weighted m p n q) ≡ locate g p) × (locate g (weighted m p n q) ≢ Boundary)
    stays = stretch_stays g p q (each_from_all IsClosed (rings g) (valid_rings_are_closed g v)) hp hq (each_from_all (Misses p q) (edges g) h) (each_from_all (PassesBy p q) (listed g) k)

    at_start : 0 < 1 + 0
    at_start = omega arith

    go : (l : Location) → locate g p ≡ l → LiesIn g Interior p q ⊎ LiesIn g Exterior p q
    go Interior e = inl (λ m n s. (stays m n s).0 ∙ e)
    go Boundary e = absurd ((stays 1 0 at_start).1 ((stays 1 0 at_start).0 ∙ e))
    go Exterior e = inr (λ m n s. (stays m n s).0 ∙ e)

-- what lies outside the envelope has no edge, or an even number of edges, above it, and is on none
pub outside_exterior : (g : Geometry) → IsValid g → OutsideIsExterior g
outside_exterior g v p hp h = outside_is_exterior g (valid_rings_are_closed g v) p hp h

-- ---- at a point strictly within a ring's edge
-- only one edge goes through a point strictly within it, since rings don't meet: so the two parities differ
pub rings_part_there : (g : Geometry) → IsValid g → RingsPart g
rings_part_there g v p w = rings_part g v w.is_ring.0 w.ring (place_from_contains (rings g) w.ring w.is_ring) w.is_edge.0 w.edge (place_from_contains (edges_of_line w.ring) w.edge w.is_edge)
    p w.is_point w.is_on w.not_start w.not_end w.not_upright

-- so of the two sides of the edge one is interior and the other exterior, and points near enough show it
pub rings_have_sides : (g : Geometry) → IsValid g → RingsHaveSides g
rings_have_sides g v p w = sides_of_a_ring g v w.is_ring.0 w.ring (place_from_contains (rings g) w.ring w.is_ring) w.is_edge.0 w.edge (place_from_contains (edges_of_line w.ring) w.edge w.is_edge)
    p w.is_point w.is_on w.not_start w.not_end w.not_upright
