-- Laws of rational points: their equality, their order, and the point between two.
use Rattle.std.specs.Prelude.{◌≡◌, ◌↔◌, true, List, pos}
use Rattle.std.specs.declared.cmp.Ordering.{Ordering}
use Rattle.std.specs.declared.cmp.Ordering.TheVariants.{Less, Equal, Greater}
use Rattle.std.specs.Ordering.{int_cmp}
use Rattle.geometry_model.specs.Points.{Position, Point, IsPoint, same_point, compare, mediant}
use Rattle.geometry_model.specs.Geometries.{Edge, Geometry}
use Rattle.geometry_model.specs.Sides.{side, on}
use Rattle.geometry_model.specs.Crossings.{spans, strictly_above, at_or_above, odd_above, odd_at_or_above}
use Rattle.geometry_model.specs.Locations.{locate}

-- each point is the same as itself
abbrev pub SameIsReflexive : Type 0
SameIsReflexive = (p : Point) → same_point p p ≡ true

-- if p is the same as q, q is the same as p
abbrev pub SameIsSymmetric : Type 0
SameIsSymmetric = (p q : Point) → same_point p q ≡ same_point q p

-- if p is the same as q, and q as r, then p is the same as r
abbrev pub SameIsTransitive : Type 0
SameIsTransitive = (p q r : Point) → IsPoint q → same_point p q ≡ true → same_point q r ≡ true → same_point p r ≡ true

-- an order the other way round
abbrev pub reversed : Ordering → Ordering
reversed Less = Greater
reversed Equal = Equal
reversed Greater = Less

-- two points compared the other way round
abbrev pub CompareIsReversed : Type 0
CompareIsReversed = (p q : Point) → compare q p ≡ reversed (compare p q)

-- two points compare as equal exactly if they are the same point
abbrev pub EqualIsSame : Type 0
EqualIsSame = (p q : Point) → (compare p q ≡ Equal) ↔ (same_point p q ≡ true)

-- if p is before q, and q before r, then p is before r
abbrev pub LessIsTransitive : Type 0
LessIsTransitive = (p q r : Point) → IsPoint p → IsPoint q → IsPoint r → compare p q ≡ Less → compare q r ≡ Less → compare p r ≡ Less

-- the mediant of two points is a point, after the lesser and before the greater
abbrev pub MediantIsBetween : Type 0
MediantIsBetween = (p q : Point) → IsPoint p → IsPoint q → compare p q ≡ Less
    → IsPoint (mediant p q) × (compare p (mediant p q) ≡ Less) × (compare (mediant p q) q ≡ Less)

-- what is said of a point doesn't depend on the triple that is taken for it
abbrev pub Respects : {A : Type 0} → (Point → A) → Type 0
Respects f = (p q : Point) → IsPoint p → IsPoint q → same_point p q ≡ true → f p ≡ f q

-- the order of points doesn't depend on the triple
abbrev pub CompareRespects : Type 0
CompareRespects = (r : Point) → Respects (λ p. compare p r)

-- nor does the side of a line on which a point is
abbrev pub SideRespects : Type 0
SideRespects = (a b : Position) → Respects (λ p. int_cmp (side a b p) (pos 0))

-- nor whether it is on an edge
abbrev pub OnRespects : Type 0
OnRespects = (e : Edge) → Respects (on e)

-- nor whether an edge spans it
abbrev pub SpansRespects : Type 0
SpansRespects = (e : Edge) → Respects (spans e)

-- nor whether an edge is strictly above it
abbrev pub StrictlyAboveRespects : Type 0
StrictlyAboveRespects = (e : Edge) → Respects (strictly_above e)

-- nor whether an edge is at or above it
abbrev pub AtOrAboveRespects : Type 0
AtOrAboveRespects = (e : Edge) → Respects (at_or_above e)

-- nor whether an odd number of edges are strictly above it
abbrev pub OddAboveRespects : Type 0
OddAboveRespects = (rs : List (List Position)) → Respects (odd_above rs)

-- nor whether an odd number of edges are at or above it
abbrev pub OddAtOrAboveRespects : Type 0
OddAtOrAboveRespects = (rs : List (List Position)) → Respects (odd_at_or_above rs)

-- nor where it lies in a geometry: interior, boundary and exterior are sets of points (06-103r4, 6.1.15.1)
abbrev pub LocateRespects : Type 0
LocateRespects = (g : Geometry) → Respects (locate g)
