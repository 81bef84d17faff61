-- Laws of gaps: what is the same all along a gap, and at its ends.
use Rattle.std.specs.Prelude.{◌≡◌, ◌≢◌, ◌⊎◌, true, false, List, ◌++◌, All, Contains}
use Rattle.geometry_model.specs.Points.{Position, Point, IsPoint, least_form, mediant}
use Rattle.geometry_model.specs.Geometries.{Edge, Geometry, kind, edges, lines, listed}
use Rattle.geometry_model.specs.Sides.{on}
use Rattle.geometry_model.specs.CutPoints.{IsCut}
use Rattle.geometry_model.specs.Locations.{is_at, is_odd_end, locate}
use Rattle.geometry_model.specs.Labels.{below, above, edges_of_both}
use Rattle.geometry_model.specs.Validity.{IsValid}
use Rattle.geometry_model.specs.declared.shapes.Kind.TheVariants as kinds
use Rattle.geometry_model.specs.declared.point_sets.Location.TheVariants.{Interior, Exterior}
use Rattle.geometry_laws.specs.PieceLaws.{HasClosedRings}
use Rattle.matrix_laws.specs.PolygonLaws.{ArePartedAs}
use Rattle.matrix_laws.specs.Gaps.{IsBetween, IsGap, IsWithin, IsShared, mostly, of_own_edges}

-- the mediant of a gap's ends, whichever triples they are, lies strictly between them
abbrev pub GapHasMediant : Type 0
GapHasMediant = (e : Edge) (fs : List Edge) (p q : Point) → IsGap e fs p q → IsBetween e p q (least_form (mediant p q))

-- between the ends of a gap there is a point that isn't a cut of these edges and listed positions
abbrev pub GapHasNoCut : Type 0
GapHasNoCut = (e : Edge) (fs : List Edge) (p q : Point) → IsGap e fs p q → (es : List Edge) (ps : List Position) → (x : Point) × IsBetween e p q x × (IsCut es ps x → ⊥)

-- all points strictly between the ends of a gap lie in the same part, except listed positions and odd ends (06-103r4, 6.1.15.2)
abbrev pub GapIsAlike : Type 0
GapIsAlike = (b : Geometry) → HasClosedRings b → (e : Edge) (p q : Point) → IsGap e (edges b) p q → (x y : Point) → IsBetween e p q x → IsBetween e p q y → mostly b x ≡ mostly b y

-- so does each point of the gap, its ends counted, that is on no edge; then no point between the ends is (06-103r4, 6.1.15.2)
abbrev pub GapEndIsAlike : Type 0
GapEndIsAlike = (b : Geometry) → HasClosedRings b → (e : Edge) (p q : Point) → IsGap e (edges b) p q → (x y : Point) → IsBetween e p q y → IsPoint x → on e x ≡ true → IsWithin (record { lesser = p; greater = q }) x
    → All (λ f. on f x ≡ false) (edges b) → (mostly b x ≡ mostly b y) × All (λ f. on f y ≡ false) (edges b)

-- a point lies where `mostly` says, unless it is an odd end or a listed position (06-103r4, 6.1.8.1)
abbrev pub MostlyIsLocated : Type 0
MostlyIsLocated = (g : Geometry) (x : Point) → IsPoint x → (kind g ≡ kinds.Line → is_odd_end (lines g) x ≡ false) → All (λ a. is_at x a ≡ false) (listed g) → locate g x ≡ mostly g x

-- so does each point that isn't a cut (06-103r4, 6.1.8.1)
abbrev pub NoCutIsMostly : Type 0
NoCutIsMostly = (a b : Geometry) (x : Point) → IsPoint x → (IsCut (edges_of_both a b) (listed a ++ listed b) x → ⊥) → (locate a x ≡ mostly a x) × (locate b x ≡ mostly b x)

-- on its own edges a geometry is mostly interior where it is of lines and boundary where it is an area (06-103r4, 6.1.8.1 and 6.1.11.1)
abbrev pub OwnEdgesAreMostly : Type 0
OwnEdgesAreMostly = (g : Geometry) (e : Edge) → Contains (edges g) e → (x : Point) → on e x ≡ true → mostly g x ≡ of_own_edges (kind g)

-- off its edges a geometry is mostly in the interior of an area or in the exterior (06-103r4, 6.1.11.1)
abbrev pub OffEdgesIsNoBoundary : Type 0
OffEdgesIsNoBoundary = (g : Geometry) (x : Point) → All (λ f. on f x ≡ false) (edges g) → (mostly g x ≡ Exterior) ⊎ ((kind g ≡ kinds.Area) × (mostly g x ≡ Interior))

-- off its edges both sides of a point lie where `mostly` says
abbrev pub SidesOffEdges : Type 0
SidesOffEdges = (g : Geometry) (x : Point) → IsPoint x → All (λ f. on f x ≡ false) (edges g) → (below g x ≡ mostly g x) × (above g x ≡ mostly g x)

-- the sides in a geometry of points or lines are in the exterior
abbrev pub SidesOfNoArea : Type 0
SidesOfNoArea = (g : Geometry) (x : Point) → kind g ≢ kinds.Area → (below g x ≡ Exterior) × (above g x ≡ Exterior)

-- at a point of an edge of a valid area, if the edge isn't vertical and the point isn't a cut, one side is interior and the other exterior (06-103r4, 6.1.11.1)
abbrev pub SidesOfOwnEdge : Type 0
SidesOfOwnEdge = (a b : Geometry) → IsValid a → kind a ≡ kinds.Area → (e : Edge) → Contains (edges a) e → e.start.x ≢ e.end.x → (x : Point) → IsPoint x → on e x ≡ true
    → (IsCut (edges_of_both a b) (listed a ++ listed b) x → ⊥) → ArePartedAs (below a x) (above a x)

-- the same strictly between two points of the edge
abbrev pub SidesWithinOwnEdge : Type 0
SidesWithinOwnEdge = (a : Geometry) → IsValid a → kind a ≡ kinds.Area → (e : Edge) → Contains (edges a) e → e.start.x ≢ e.end.x → (p q x : Point) → IsPoint p → IsPoint q → on e p ≡ true → on e q ≡ true → IsBetween e p q x
    → ArePartedAs (below a x) (above a x)

-- all along an edge of a valid area that isn't vertical, strictly between two of its points, each side lies in one part (06-103r4, 6.1.11.1)
abbrev pub SidesAlongOwnEdge : Type 0
SidesAlongOwnEdge = (a : Geometry) → IsValid a → (e : Edge) → Contains (edges a) e → e.start.x ≢ e.end.x → (p q x y : Point) → IsPoint p → IsPoint q → on e p ≡ true → on e q ≡ true → IsBetween e p q x → IsBetween e p q y
    → (below a x ≡ below a y) × (above a x ≡ above a y)

-- an edge that holds one point strictly between the ends of a gap holds all of them
abbrev pub SharedPointSharesGap : Type 0
SharedPointSharesGap = (e : Edge) (fs : List Edge) (p q x : Point) (f : Edge) → IsGap e fs p q → Contains fs f → IsBetween e p q x → on f x ≡ true → IsShared e p q f

-- and an edge that holds all of them holds the gap's ends too
abbrev pub SharedGapHoldsEnds : Type 0
SharedGapHoldsEnds = (e : Edge) (fs : List Edge) (p q : Point) (f : Edge) → IsGap e fs p q → Contains fs f → IsShared e p q f → (on f p ≡ true) × (on f q ≡ true)
