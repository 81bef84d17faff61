-- Where a geometry has a fault, and what is wrong there.
use Rattle.std.specs.Prelude.{◌≡◌, ◌≢◌, ℕ, ◌-◌, ◌<◌, ◌⊎◌, true, false, List, [], ◌∷◌, length, Some, slice_get, Contains}
use Rattle.geometry_model.specs.Points.{Position, point_at}
use Rattle.geometry_model.specs.Geometries.{Geometry, lines, rings, elements}
use Rattle.geometry_model.specs.Crossings.{odd_above}
use Rattle.geometry_model.specs.Validity.{is_short, Element, numbered_elements, IsRing, RingsShare}
use Rattle.geometry_model.specs.declared.validity_faults.ValidityFault.{ValidityFault}
use Rattle.geometry_model.specs.declared.validity_faults.ValidityFault.TheVariants.{TooFewPoints, RingNotClosed, RingNotSimple, RingsMeet, HoleOutside, HolesNested, ElementsMeet, ElementInside}
use Rattle.witnesses.specs.Places.{IsClashOf, IsMeetingOf}
use Rattle.witnesses.specs.declared.shared.SharedPlace.{SharedPlace}
use Rattle.witnesses.specs.declared.places.Place.{Place}
use Rattle.witnesses.specs.declared.places.Place.TheVariants.{Short, Open, Shared, Outside, Inside}

-- rings at places k < l of one polygon, with these numbers (06-103r4, 6.1.11.1)
pub record AreOfOne (g : Geometry) (k l i j : ℕ) (r s : List Position) : Type 0 where
  pub element : Element
  pub numbered : Contains (numbered_elements g) element
  pub later : k < l
  pub first : IsRing element k i r
  pub second : IsRing element l j s

-- the ring's first position, of which an odd number of edges of these rings lie above (06-103r4, 6.1.11.1)
abbrev pub IsInsideAt : List (List Position) → List Position → Position → Type 0
IsInsideAt outer ring at = (slice_get ring 0 ≡ Some at) × (odd_above outer (point_at at) ≡ true)

-- the ring's first position, of which an even number of edges of these rings lie above (06-103r4, 6.1.11.1)
abbrev pub IsOutsideAt : List (List Position) → List Position → Position → Type 0
IsOutsideAt outer ring at = (slice_get ring 0 ≡ Some at) × (odd_above outer (point_at at) ≡ false)

-- an edge of a ring of the one polygon and one of a ring of the other share a point, and exactly what they share (06-103r4, 6.1.14 and 6.1.15.2)
pub record IsMeetingOfPolygons (d e : List (List Position)) (shared : SharedPlace) : Type 0 where
  pub r : List Position
  pub s : List Position
  pub first : Contains d r
  pub second : Contains e s
  pub meeting : IsMeetingOf r s shared

-- the same of one ring and some rings
pub record IsMeetingWithOne (r : List Position) (others : List (List Position)) (shared : SharedPlace) : Type 0 where
  pub s : List Position
  pub second : Contains others s
  pub meeting : IsMeetingOf r s shared

-- a ring shares a point with one of some rings
pub record MeetsOne (r : List Position) (others : List (List Position)) : Type 0 where
  pub s : List Position
  pub second : Contains others s
  pub share : RingsShare r s

-- the first position of the polygon's outer ring, which is inside the rings of the other (06-103r4, 6.1.14)
pub record IsPolygonInsideAt (other polygon : List (List Position)) (at : Position) : Type 0 where
  pub outer : List Position
  pub first : slice_get polygon 0 ≡ Some outer
  pub inside : IsInsideAt other outer at

-- the place shows that the geometry has the fault (06-103r4, 6.1.7, 6.1.11.1 and 6.1.14; which place: this project's choice)
abbrev pub IsPlaceOf : Geometry → ValidityFault → Place → Type 0
-- V1: the part's first position, and how many it has
IsPlaceOf g (TooFewPoints i) place = (part : List Position) × (first : Position) × (slice_get (lines g) i ≡ Some part) × (is_short g part ≡ true) × (slice_get part 0 ≡ Some first)
    × (place ≡ Short first (length part))
-- V2: the ring's first position and its last, which differ
IsPlaceOf g (RingNotClosed i) place = (ring : List Position) × (first last : Position) × (slice_get (rings g) i ≡ Some ring) × (slice_get ring 0 ≡ Some first) × (slice_get ring (length ring - 1) ≡ Some last)
    × (first ≢ last) × (place ≡ Open first last)
-- V3: two edges of the ring that clash, and exactly what they share
IsPlaceOf g (RingNotSimple i) place = (ring : List Position) × (shared : SharedPlace) × (slice_get (rings g) i ≡ Some ring) × IsClashOf ring shared × (place ≡ Shared shared)
-- V4: an edge of each of two rings of a polygon, and exactly what they share
IsPlaceOf g (RingsMeet i j) place = (k l : ℕ) × (r s : List Position) × (shared : SharedPlace) × AreOfOne g k l i j r s × IsMeetingOf r s shared × (place ≡ Shared shared)
-- V5: a position of the hole outside the outer ring, which is the first of its polygon
IsPlaceOf g (HoleOutside i) place = (l n : ℕ) × (outer hole : List Position) × (at : Position) × AreOfOne g 0 l n i outer hole × IsOutsideAt (outer ∷ []) hole at × (place ≡ Outside at)
-- V6: a position of one hole inside the other
IsPlaceOf g (HolesNested i j) place = (k l : ℕ) × (r s : List Position) × (at : Position) × (0 < k) × AreOfOne g k l i j r s × (IsInsideAt (r ∷ []) s at ⊎ IsInsideAt (s ∷ []) r at) × (place ≡ Inside at)
-- V7: an edge of each of two polygons, and exactly what they share
IsPlaceOf g (ElementsMeet i j) place = (d e : List (List Position)) × (shared : SharedPlace) × (i < j) × (slice_get (elements g) i ≡ Some d) × (slice_get (elements g) j ≡ Some e)
    × IsMeetingOfPolygons d e shared × (place ≡ Shared shared)
-- V8: a position of the first polygon inside the second
IsPlaceOf g (ElementInside i j) place = (d e : List (List Position)) × (at : Position) × (i ≢ j) × (slice_get (elements g) i ≡ Some d) × (slice_get (elements g) j ≡ Some e)
    × IsPolygonInsideAt e d at × (place ≡ Inside at)
