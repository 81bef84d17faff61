-- Laws of areas and envelopes: what lies entirely on one side of the rings, and what is outside.
use Rattle.std.specs.Prelude.{◌≡◌, ◌≢◌, ◌⊎◌, ◌↔◌, ℕ, ◌+◌, ◌<◌, true, false, List, [], ◌∷◌, All, Contains, Option, Some, None, ◌*ℤ◌, ◌<ℤ◌}
use Rattle.geometry_model.specs.Points.{Position, Point, IsPoint}
use Rattle.geometry_model.specs.Geometries.{Edge, Geometry, Polygon, edges, edges_of_line, edges_of_lines, elements, listed, rings}
use Rattle.geometry_model.specs.Sides.{on}
use Rattle.geometry_model.specs.Crossings.{exactly_one, odd_above, odd_at_or_above}
use Rattle.geometry_model.specs.Validity.{IsValid}
use Rattle.geometry_model.specs.Dimensions.{weighted, Matrix, cell, IsMatrix}
use Rattle.geometry_model.specs.Locations.{is_at, locate}
use Rattle.geometry_model.specs.Labels.{below, above}
use Rattle.geometry_model.specs.Envelopes.{Envelope, envelope, meets}
use Rattle.geometry_model.specs.declared.point_sets.Dimension.TheVariants.{Empty}
use Rattle.geometry_model.specs.declared.point_sets.Location.{Location}
use Rattle.geometry_model.specs.declared.point_sets.Location.TheVariants.{Interior, Boundary, Exterior}
use Rattle.geometry_laws.specs.RingLaws.{Misses}
use Rattle.geometry_laws.specs.PieceLaws.{HasClosedRings}
use Rattle.geometry_laws.specs.CoverLaws.{NearSides, AreAllNear}

-- no point of the straight stretch from p to q is at the position
abbrev pub PassesBy : Point → Point → Position → Type 0
PassesBy p q a = (m n : ℕ) → 0 < m + n → is_at (weighted m p n q) a ≡ false

-- a straight stretch that misses a geometry's edges and listed positions lies entirely in its interior or entirely in its exterior (06-103r4, 6.1.11.1: the interior is a connected point set)
abbrev pub StretchStays : Type 0
StretchStays = (g : Geometry) (p q : Point) → HasClosedRings g → IsPoint p → IsPoint q → All (Misses p q) (edges g) → All (PassesBy p q) (listed g)
    → (m n : ℕ) → 0 < m + n → (locate g (weighted m p n q) ≡ locate g p) × (locate g (weighted m p n q) ≢ Boundary)

-- a point outside an envelope: left of it, right of it, below it or above it; every point is outside an absent one (06-103r4, 6.1.2.2: Envelope)
abbrev pub IsOutside : Option Envelope → Point → Type 0
IsOutside None p = Unit {0}
IsOutside (Some e) p = (p.X <ℤ (e.least_x *ℤ p.W)) ⊎ ((e.greatest_x *ℤ p.W) <ℤ p.X) ⊎ (p.Y <ℤ (e.least_y *ℤ p.W)) ⊎ ((e.greatest_y *ℤ p.W) <ℤ p.Y)

-- a point outside the envelope is in the exterior (06-103r4, 6.1.2.2: Envelope)
abbrev pub OutsideIsExterior : Type 0
OutsideIsExterior = (g : Geometry) → HasClosedRings g → (p : Point) → IsPoint p → IsOutside (envelope g) p → locate g p ≡ Exterior

-- two geometries with a common point have envelopes that meet (06-103r4, 6.1.2.2: Envelope)
abbrev pub CommonPointMeets : Type 0
CommonPointMeets = (a b : Geometry) → HasClosedRings a → HasClosedRings b → (p : Point) → IsPoint p → locate a p ≢ Exterior → locate b p ≢ Exterior → meets (envelope a) (envelope b) ≡ true

-- all rings of a valid geometry are closed (06-103r4, 6.1.7 and 6.1.11.1)
abbrev pub ValidRingsAreClosed : Type 0
ValidRingsAreClosed = (g : Geometry) → IsValid g → HasClosedRings g

-- in a valid area every point of a hole's ring is inside its element's outer ring: it has an odd number of that ring's edges above it (06-103r4, 6.1.11.1)
abbrev pub HoleRingIsInside : Type 0
HoleRingIsInside = (g : Geometry) → IsValid g → (outer : List Position) (holes : List (List Position)) → Contains (elements g) (outer ∷ holes) → (hole : List Position) → Contains holes hole
    → (p : Point) → IsPoint p → (e : Edge) → Contains (edges_of_line hole) e → on e p ≡ true → odd_above (outer ∷ []) p ≡ true

-- in a valid area a point off the rings of an element is in that element's interior exactly if it has an odd number of the outer ring's edges above it and an odd number of no hole's (06-103r4, 6.1.11.1)
abbrev pub HolesAreCut : Type 0
HolesAreCut = (g : Geometry) → IsValid g → (outer : List Position) (holes : List (List Position)) → Contains (elements g) (outer ∷ holes) → (p : Point) → IsPoint p → All (λ e. on e p ≡ false) (edges_of_lines (outer ∷ holes))
    → (locate (Polygon (outer ∷ holes)) p ≡ Interior) ↔ ((odd_above (outer ∷ []) p ≡ true) × All (λ hole. odd_above (hole ∷ []) p ≡ false) holes)

-- in a valid area, at a point strictly within a ring edge that isn't vertical, exactly one of the two numbers of edges, strictly above and at or above, is odd: the rings part the interior from the exterior there (06-103r4, 6.1.11.1 and 6.1.14)
abbrev pub RingsPart : Type 0
RingsPart = (g : Geometry) → IsValid g → (ring : List Position) → Contains (rings g) ring → (e : Edge) → Contains (edges_of_line ring) e
    → (p : Point) → IsPoint p → on e p ≡ true → is_at p e.start ≡ false → is_at p e.end ≡ false → e.start.x ≢ e.end.x
    → exactly_one (odd_above (rings g) p) (odd_at_or_above (rings g) p) ≡ true

-- one of the two is the interior and the other the exterior
abbrev pub ArePartedAs : Location → Location → Type 0
ArePartedAs l k = ((l ≡ Interior) × (k ≡ Exterior)) ⊎ ((l ≡ Exterior) × (k ≡ Interior))

-- in a valid area, at such a point, one of below and above is interior and the other exterior; straight below and straight above it there are, arbitrarily near, points that lie so, and all that are near enough do (06-103r4, 6.1.11.1 and 6.1.14)
abbrev pub SidesOfARing : Type 0
SidesOfARing = (g : Geometry) → IsValid g → (ring : List Position) → Contains (rings g) ring → (e : Edge) → Contains (edges_of_line ring) e
    → (p : Point) → IsPoint p → on e p ≡ true → is_at p e.start ≡ false → is_at p e.end ≡ false → e.start.x ≢ e.end.x
    → ArePartedAs (below g p) (above g p) × ((k : ℕ) → NearSides g p k) × AreAllNear g p

-- where the envelopes of two geometries don't meet, no part but the exterior of the one has a point in a part but the exterior of the other (06-103r4, 6.1.2.2 and 6.1.15.2)
abbrev pub NothingCommon : Type 0
NothingCommon = (a b : Geometry) → HasClosedRings a → HasClosedRings b → meets (envelope a) (envelope b) ≡ false → (m : Matrix) → IsMatrix a b m
    → (l k : Location) → l ≢ Exterior → k ≢ Exterior → cell m l k ≡ Empty
