-- What holds of a valid geometry's interior, boundary and exterior, as sets of points.
use Rattle.std.specs.Prelude.{◌≡◌, ◌≢◌, ◌⊎◌, ◌↔◌, ℕ, ◌+◌, ◌<◌, true, false, List, [], ◌∷◌, All, Contains, Some, slice_get}
use Rattle.geometry_model.specs.Points.{Position, Point, IsPoint}
use Rattle.geometry_model.specs.Geometries.{Edge, Geometry, Polygon, edges, edges_of_line, edges_of_lines, elements, kind, listed, rings}
use Rattle.geometry_model.specs.Sides.{on}
use Rattle.geometry_model.specs.Crossings.{exactly_one, odd_above, odd_at_or_above}
use Rattle.geometry_model.specs.Dimensions.{weighted}
use Rattle.geometry_model.specs.Envelopes.{envelope}
use Rattle.geometry_model.specs.Labels.{below, above}
use Rattle.geometry_model.specs.Locations.{is_at, locate}
use Rattle.geometry_model.specs.declared.point_sets.Location.{Location}
use Rattle.geometry_model.specs.declared.point_sets.Location.TheVariants.{Interior, Exterior}
use Rattle.geometry_model.specs.declared.shapes.Kind.TheVariants.{Area}
use Rattle.geometry_laws.specs.RingLaws.{Misses}
use Rattle.geometry_laws.specs.CoverLaws.{NearSides, AreAllNear}
use Rattle.matrix_laws.specs.PolygonLaws.{ArePartedAs, IsOutside, PassesBy}

-- the point is on none of the rings (06-103r4, 6.1.11.1)
abbrev pub IsOffRings : List (List Position) → Point → Type 0
IsOffRings rings p = All (λ e. on e p ≡ false) (edges_of_lines rings)

-- an odd number of the outer ring's edges are above the point, and of no hole's (06-103r4, 6.1.11.1)
abbrev pub IsWithinButInNoHole : List Position → List (List Position) → Point → Type 0
IsWithinButInNoHole outer holes p = (odd_above (outer ∷ []) p ≡ true) × All (λ hole. odd_above (hole ∷ []) p ≡ false) holes

-- a point off an element's rings is in its interior exactly if it is within the outer ring and in no hole; a POLYGON is its own element (06-103r4, 6.1.11.1)
abbrev pub HolesAreCutOut : Geometry → Type 0
HolesAreCutOut g = (outer : List Position) (holes : List (List Position)) → Contains (elements g) (outer ∷ holes) → (p : Point) → IsPoint p → IsOffRings (outer ∷ holes) p
    → (locate (Polygon (outer ∷ holes)) p ≡ Interior) ↔ IsWithinButInNoHole outer holes p

-- every point of a hole's ring is inside its element's outer ring (06-103r4, 6.1.11.1)
abbrev pub HolesAreInside : Geometry → Type 0
HolesAreInside g = (outer hole : List Position) (holes : List (List Position)) → Contains (elements g) (outer ∷ holes) → Contains holes hole
    → (e : Edge) → Contains (edges_of_line hole) e → (p : Point) → IsPoint p → on e p ≡ true → odd_above (outer ∷ []) p ≡ true

-- a point is in the interior of an area exactly when it is in the interior of one of its elements (06-103r4, 6.1.14)
abbrev pub InteriorByElements : Geometry → Type 0
InteriorByElements g = kind g ≡ Area → (p : Point) → IsPoint p
    → (locate g p ≡ Interior) ↔ ((element : List (List Position)) × Contains (elements g) element × (locate (Polygon element) p ≡ Interior))

-- and never in two: what isn't in the exterior of one element is in the exterior of every other (06-103r4, 6.1.14)
abbrev pub ElementsAreApart : Geometry → Type 0
ElementsAreApart g = (i j : ℕ) (one other : List (List Position)) → i ≢ j → slice_get (elements g) i ≡ Some one → slice_get (elements g) j ≡ Some other
    → (p : Point) → IsPoint p → locate (Polygon one) p ≢ Exterior → locate (Polygon other) p ≡ Exterior

-- the whole straight stretch from p to q is in that part of the plane (06-103r4, 6.1.15.2)
abbrev pub LiesIn : Geometry → Location → Point → Point → Type 0
LiesIn g l p q = (m n : ℕ) → 0 < m + n → locate g (weighted m p n q) ≡ l

-- a straight stretch that misses all edges (and, in point types, the listed positions) lies entirely in the interior or entirely in the exterior (06-103r4, 6.1.11.1)
abbrev pub StretchesStay : Geometry → Type 0
StretchesStay g = (p q : Point) → IsPoint p → IsPoint q → All (Misses p q) (edges g) → All (PassesBy p q) (listed g)
    → LiesIn g Interior p q ⊎ LiesIn g Exterior p q

-- a point outside the envelope is in the exterior (06-103r4, 6.1.2.2: Envelope)
abbrev pub OutsideIsExterior : Geometry → Type 0
OutsideIsExterior g = (p : Point) → IsPoint p → IsOutside (envelope g) p → locate g p ≡ Exterior

-- the point is strictly within an edge of a ring, and the edge isn't vertical (06-103r4, 6.1.11.1)
pub record IsWithinRingEdge (g : Geometry) (p : Point) : Type 0 where
  pub is_point : IsPoint p
  pub ring : List Position
  pub is_ring : Contains (rings g) ring
  pub edge : Edge
  pub is_edge : Contains (edges_of_line ring) edge
  pub is_on : on edge p ≡ true
  pub not_start : is_at p edge.start ≡ false
  pub not_end : is_at p edge.end ≡ false
  pub not_upright : edge.start.x ≢ edge.end.x

-- there exactly one of the two numbers of edges, strictly above and at or above, is odd (06-103r4, 6.1.11.1)
abbrev pub RingsPart : Geometry → Type 0
RingsPart g = (p : Point) → IsWithinRingEdge g p → exactly_one (odd_above (rings g) p) (odd_at_or_above (rings g) p) ≡ true

-- of below and above one is interior there and the other exterior; arbitrarily near there are points that lie so, and all near enough do (06-103r4, 6.1.11.1)
abbrev pub RingsHaveSides : Geometry → Type 0
RingsHaveSides g = (p : Point) → IsWithinRingEdge g p → ArePartedAs (below g p) (above g p) × ((k : ℕ) → NearSides g p k) × AreAllNear g p
