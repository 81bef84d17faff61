-- Gaps: the stretches of an edge between neighbouring points at which other edges meet it.
use Rattle.std.specs.Prelude.{◌≡◌, ◌⊎◌, true, false, ◌||◌, List, [], ◌∷◌, All, Any, Contains, if◌then◌else◌, pos, ◌≤ℤ◌}
use Rattle.std.specs.declared.cmp.Ordering.TheVariants.{Less}
use Rattle.geometry_model.specs.Points.{Point, IsPoint, same_point, compare}
use Rattle.geometry_model.specs.Geometries.{Edge, Geometry, kind, lines, rings}
use Rattle.geometry_model.specs.Sides.{on, on_one_line}
use Rattle.geometry_model.specs.CutPoints.{is_end, IsCut}
use Rattle.geometry_model.specs.Pieces.{Piece, stretches}
use Rattle.geometry_model.specs.Locations.{on_some, in_rings}
use Rattle.geometry_model.specs.declared.shapes.Kind.{Kind}
use Rattle.geometry_model.specs.declared.shapes.Kind.TheVariants as kinds
use Rattle.geometry_model.specs.declared.point_sets.Location.{Location}
use Rattle.geometry_model.specs.declared.point_sets.Location.TheVariants.{Interior, Exterior}
use Rattle.fraction.specs.Ranges.{meeting_limit}

-- the point lies on the edge strictly between two others
pub record IsBetween (e : Edge) (p q x : Point) : Type 0 where
  pub is_point : IsPoint x
  pub is_on : on e x ≡ true
  pub after : compare p x ≡ Less
  pub before : compare x q ≡ Less

-- the other edge holds no point strictly between the two
abbrev pub IsClear : Edge → Point → Point → Edge → Type 0
IsClear e p q f = (x : Point) → IsBetween e p q x → on f x ≡ false

-- the other edge, on the same line, holds all points between the two
abbrev pub IsShared : Edge → Point → Point → Edge → Type 0
IsShared e p q f = (on_one_line e f ≡ true) × ((x : Point) → IsBetween e p q x → on f x ≡ true)

-- a gap: two points of an edge, the lesser first, between which each of the other edges holds all points or none
pub record IsGap (e : Edge) (others : List Edge) (p q : Point) : Type 0 where
  pub lesser_is_point : IsPoint p
  pub greater_is_point : IsPoint q
  pub lesser_on : on e p ≡ true
  pub greater_on : on e q ≡ true
  pub in_order : compare p q ≡ Less
  pub whole : All (λ f. IsClear e p q f ⊎ IsShared e p q f) others

-- the point isn't before the lesser end of the stretch, nor after its greater end
pub record IsWithin (c : Piece) (x : Point) : Type 0 where
  pub not_before : compare x c.lesser ≡ Less → ⊥
  pub not_after : compare c.greater x ≡ Less → ⊥

-- where an edge meets others: the points that it shares with them, and its stops, whose neighbours have its gaps between them
pub record EdgeGaps : Type 0 where
  pub shared : List Point
  pub stops : List Point

-- the shared points are on the edge and on another, and each point that they share is among them where it ends one of the two or they aren't on one line; the stops are cuts of the edges; between neighbours of them there are gaps, and these hold the whole edge
pub record AreGaps (e : Edge) (others : List Edge) (g : EdgeGaps) : Type 0 where
  pub shared_on : All (λ p. IsPoint p × (on e p ≡ true) × Any (λ f. on f p ≡ true) others) g.shared
  pub found : (f : Edge) → Contains others f → (x : Point) → IsPoint x → on e x ≡ true → on f x ≡ true → is_end e x || is_end f x ≡ true → Any (λ p. same_point p x ≡ true) g.shared
  pub crossed : (f : Edge) → Contains others f → (x : Point) → IsPoint x → on e x ≡ true → on f x ≡ true → on_one_line e f ≡ false → Any (λ p. same_point p x ≡ true) g.shared
  pub gaps : All (λ c. IsGap e others c.lesser c.greater) (stretches g.stops)
  pub cuts : All (IsCut (e ∷ others) []) g.stops
  pub whole : (x : Point) → IsPoint x → on e x ≡ true → Any (λ c. IsWithin c x) (stretches g.stops)
  pub limits : All (λ p. p.W ≤ℤ pos meeting_limit) g.stops

-- where almost all points of a stretch lie in a geometry of this kind: the listed positions of points and the odd ends of lines don't count
abbrev pub mostly_of : Kind → Geometry → Point → Location
mostly_of kinds.Point g p = Exterior
mostly_of kinds.Line g p = if on_some (lines g) p then Interior else Exterior
mostly_of kinds.Area g p = in_rings (rings g) p

-- where almost all points of a stretch lie in a geometry
abbrev pub mostly : Geometry → Point → Location
mostly g p = mostly_of (kind g) g p

-- where almost all points of its own edges lie in a geometry: in the interior of lines, on the boundary of an area (points have no edges)
abbrev pub of_own_edges : Kind → Location
of_own_edges kinds.Point = Exterior
of_own_edges kinds.Line = Interior
of_own_edges kinds.Area = Location.Boundary

-- no other edge shares a stretch with the edge: of two edges on one line, at most one point is on both
abbrev pub SharesNoStretch : Edge → List Edge → Type 0
SharesNoStretch e others = (f : Edge) → Contains others f → on_one_line e f ≡ true → (x y : Point) → IsPoint x → IsPoint y → on e x ≡ true → on f x ≡ true → on e y ≡ true → on f y ≡ true → same_point x y ≡ true
