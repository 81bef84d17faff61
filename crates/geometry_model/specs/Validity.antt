-- Which geometries are valid: what each fault says, as facts about rational points.
use Rattle.std.specs.Prelude.{◌≡◌, ◌≢◌, ℕ, ◌+◌, ◌<◌, ◌==◌, nat_lt, ◌⊎◌, Bool, true, false, List, [], ◌∷◌, length, Some, slice_get, Contains}
use Rattle.geometry_model.specs.Points.{Position, Point, IsPoint, same_point, point_at}
use Rattle.geometry_model.specs.Geometries.{Geometry, Polygon, Edge, lines, rings, elements, edges_of_line}
use Rattle.geometry_model.specs.Sides.{on}
use Rattle.geometry_model.specs.Crossings.{odd_above}
use Rattle.geometry_model.specs.Locations.{last_after}
use Rattle.geometry_model.specs.declared.validity_faults.ValidityFault.{ValidityFault}
use Rattle.geometry_model.specs.declared.validity_faults.ValidityFault.TheVariants.{TooFewPoints, RingNotClosed, RingNotSimple, RingsMeet, HoleOutside, HolesNested, ElementsMeet, ElementInside}

-- a part has too few positions: one in a LineString, fewer than 2 in an element of a MultiLineString, fewer than 4 in a ring, its last one counted
-- (06-103r4, 6.1.7 and 6.1.11.1)
abbrev pub is_short : Geometry → List Position → Bool
is_short (Geometry.Point p) part = false
is_short (Geometry.MultiPoint ps) part = false
is_short (Geometry.LineString ps) part = length part == 1
is_short (Geometry.MultiLineString ls) part = nat_lt (length part) 2
is_short (Polygon rs) part = nat_lt (length part) 4
is_short (Geometry.MultiPolygon es) part = nat_lt (length part) 4

-- some point is on both edges (06-103r4, 6.1.15: intersection of point sets)
pub record SharePoint (e f : Edge) : Type 0 where
  pub at : Point
  pub is_point : IsPoint at
  pub on_first : on e at ≡ true
  pub on_second : on f at ≡ true

-- some point other than the position is on both edges (06-103r4, 6.1.15: intersection of point sets)
pub record ShareOther (shared_end : Position) (e f : Edge) : Type 0 where
  pub at : Point
  pub is_point : IsPoint at
  pub on_first : on e at ≡ true
  pub on_second : on f at ≡ true
  pub other : same_point at (point_at shared_end) ≡ false

-- edges i < j of the n edges of a ring clash: neighbours share more than their common position, others share a point;
-- the first and the last edge are neighbours (06-103r4, 6.1.6.1: simple)
abbrev pub Clash : ℕ → ℕ → ℕ → Edge → Edge → Type 0
Clash n i j e f = ((j ≡ i + 1) × ShareOther e.end e f) ⊎ ((i ≡ 0) × (j + 1 ≡ n) × ShareOther e.start e f) ⊎ ((j ≢ i + 1) × (((i ≡ 0) × (j + 1 ≡ n)) → ⊥) × SharePoint e f)

-- a ring that touches, crosses or covers itself (06-103r4, 6.1.7: a LinearRing is simple)
pub record IsNotSimple (ring : List Position) : Type 0 where
  pub i : ℕ
  pub j : ℕ
  pub e : Edge
  pub f : Edge
  pub later : i < j
  pub first : slice_get (edges_of_line ring) i ≡ Some e
  pub second : slice_get (edges_of_line ring) j ≡ Some f
  pub clash : Clash (length (edges_of_line ring)) i j e f

-- two rings share a point (06-103r4, 6.1.11.1: no two rings cross; touching at a point is refused too: this project's choice)
pub record RingsShare (r s : List Position) : Type 0 where
  pub i : ℕ
  pub j : ℕ
  pub e : Edge
  pub f : Edge
  pub first : slice_get (edges_of_line r) i ≡ Some e
  pub second : slice_get (edges_of_line s) j ≡ Some f
  pub share : SharePoint e f

-- the first position of the second ring is inside the first one (06-103r4, 6.1.11.1)
abbrev pub inside : List Position → List Position → Bool
inside outer [] = false
inside outer (p ∷ ps) = odd_above (outer ∷ []) (point_at p)

-- the last position isn't the first (06-103r4, 6.1.7: a LinearRing is closed)
abbrev pub IsNotClosed : List Position → Type 0
IsNotClosed [] = ⊥
IsNotClosed (p ∷ ps) = last_after p ps ≢ p

-- a polygon of an area: its rings, and the number of the first of them; rings are numbered through the whole area
pub record Element : Type 0 where
  pub first : ℕ
  pub rings : List (List Position)

-- polygons one after another, their rings numbered from this number on
abbrev pub elements_from : ℕ → List (List (List Position)) → List Element
elements_from first [] = []
elements_from first (rings ∷ more) = record { first = first; rings = rings } ∷ elements_from (first + length rings) more

-- the polygons of an area, with the numbers of their rings (06-103r4, 6.1.11.1 and 6.1.14)
abbrev pub numbered_elements : Geometry → List Element
numbered_elements g = elements_from 0 (elements g)

-- this ring is at this place in the polygon and has this number
abbrev pub IsRing : Element → ℕ → ℕ → List Position → Type 0
IsRing e place number ring = (number ≡ e.first + place) × (slice_get e.rings place ≡ Some ring)

-- a ring of one polygon and one of the other share a point (06-103r4, 6.1.14: elements don't cross; touching is refused too: this project's choice)
pub record ElementsShare (d e : List (List Position)) : Type 0 where
  pub r : List Position
  pub s : List Position
  pub first : Contains d r
  pub second : Contains e s
  pub share : RingsShare r s

-- the first position of the second polygon's outer ring is inside the rings of the first (06-103r4, 6.1.14: interiors of elements don't intersect)
abbrev pub inside_element : List (List Position) → List (List Position) → Bool
inside_element other [] = false
inside_element other ([] ∷ holes) = false
inside_element other ((p ∷ ps) ∷ holes) = odd_above other (point_at p)

-- the geometry has the fault; parts, rings and elements are numbered from 0 (06-103r4, 6.1.7, 6.1.11.1 and 6.1.14; that rings don't touch is this project's choice)
abbrev pub HasFault : Geometry → ValidityFault → Type 0
HasFault g (TooFewPoints i) = (part : List Position) × (slice_get (lines g) i ≡ Some part) × (is_short g part ≡ true)
HasFault g (RingNotClosed i) = (ring : List Position) × (slice_get (rings g) i ≡ Some ring) × IsNotClosed ring
HasFault g (RingNotSimple i) = (ring : List Position) × (slice_get (rings g) i ≡ Some ring) × IsNotSimple ring
HasFault g (RingsMeet i j) = (e : Element) × (k l : ℕ) × (r s : List Position) × Contains (numbered_elements g) e × (k < l) × IsRing e k i r × IsRing e l j s
    × RingsShare r s
HasFault g (HoleOutside i) = (e : Element) × (k : ℕ) × (outer hole : List Position) × Contains (numbered_elements g) e × (0 < k) × (slice_get e.rings 0 ≡ Some outer) × IsRing e k i hole
    × (inside outer hole ≡ false)
HasFault g (HolesNested i j) = (e : Element) × (k l : ℕ) × (r s : List Position) × Contains (numbered_elements g) e × (0 < k) × (k < l) × IsRing e k i r × IsRing e l j s
    × ((inside r s ≡ true) ⊎ (inside s r ≡ true))
HasFault g (ElementsMeet i j) = (d e : List (List Position)) × (i < j) × (slice_get (elements g) i ≡ Some d) × (slice_get (elements g) j ≡ Some e) × ElementsShare d e
HasFault g (ElementInside i j) = (d e : List (List Position)) × (i ≢ j) × (slice_get (elements g) i ≡ Some d) × (slice_get (elements g) j ≡ Some e) × (inside_element e d ≡ true)

-- no fault applies to the geometry (06-103r4, 6.1.7, 6.1.11.1 and 6.1.14)
abbrev pub IsValid : Geometry → Type 0
IsValid g = (fault : ValidityFault) → HasFault g fault → ⊥
