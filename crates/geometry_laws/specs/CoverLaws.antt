-- Laws of what finitely many points and lines don't cover, and of the first edge above a point.
use Rattle.std.specs.Prelude.{◌≡◌, ◌≢◌, ℕ, ◌+◌, ◌<◌, ◌⊎◌, false, true, List, All, Contains, ℤ, pos, ◌+ℤ◌, ◌-ℤ◌, ◌*ℤ◌, ◌<ℤ◌}
use Rattle.geometry_model.specs.Points.{Point, IsPoint, same_point}
use Rattle.geometry_model.specs.Geometries.{Edge, Geometry, edges, listed}
use Rattle.geometry_model.specs.Sides.{on}
use Rattle.geometry_model.specs.Crossings.{strictly_above, at_or_above}
use Rattle.geometry_model.specs.Dimensions.{area, weighted, weighted_three, HasTriangle, common}
use Rattle.geometry_model.specs.Locations.{is_at, locate}
use Rattle.geometry_model.specs.Labels.{above, below}
use Rattle.geometry_laws.specs.PieceLaws.{HasClosedRings}

-- a straight line of the plane: the points p at which a X + b Y + c W is 0
pub record Line : Type 0 where
  pub a : ℤ
  pub b : ℤ
  pub c : ℤ

-- above 0 on one side of the line, below 0 on the other
abbrev pub value : Line → Point → ℤ
value l p = l.a *ℤ p.X +ℤ l.b *ℤ p.Y +ℤ l.c *ℤ p.W

-- it is a line: a and b aren't both 0
abbrev pub IsLine : Line → Type 0
IsLine l = (l.a ≢ pos 0) ⊎ (l.b ≢ pos 0)

-- finitely many points don't cover a segment
abbrev pub PointsDontCover : Type 0
PointsDontCover = (cs : List Point) (p q : Point) → All IsPoint cs → IsPoint p → IsPoint q → same_point p q ≡ false
    → (m n : ℕ) × (0 < m + n) × All (λ c. same_point c (weighted m p n q) ≡ false) cs

-- finitely many lines don't cover a triangle
abbrev pub LinesDontCover : Type 0
LinesDontCover = (ls : List Line) (p q r : Point) → All IsLine ls → area p q r ≢ pos 0
    → (k m n : ℕ) × (0 < k + m + n) × All (λ l. value l (weighted_three k p m q n r) ≢ pos 0) ls

-- the points are on one vertical line
abbrev pub IsStraightOver : Point → Point → Type 0
IsStraightOver p q = p.X *ℤ q.W ≡ q.X *ℤ p.W

-- the first has a lesser y than the second
abbrev pub IsLower : Point → Point → Type 0
IsLower p q = (p.Y *ℤ q.W) <ℤ (q.Y *ℤ p.W)

-- the first of the edges that are strictly above x, and its point straight above x: every other such edge meets the vertical line there or higher, and the edges at or above that point are exactly those strictly above x
pub record FirstAbove (es : List Edge) (x : Point) : Type 0 where
  pub point : Point
  pub edge : Edge
  pub among : Contains es edge
  pub is_above : strictly_above edge x ≡ true
  pub is_point : IsPoint point
  pub straight_above : IsStraightOver point x
  pub higher : IsLower x point
  pub is_on : on edge point ≡ true
  pub none_between : (e : Edge) → Contains es e → strictly_above e x ≡ true → (z : Point) → IsPoint z → IsStraightOver z x → on e z ≡ true → IsLower z point → ⊥
  pub alike : All (λ e. at_or_above e point ≡ strictly_above e x) es

-- no edge is strictly above a point, or there is a first one
abbrev pub FirstIsAbove : Type 0
FirstIsAbove = (es : List Edge) (x : Point) → IsPoint x → All (λ e. strictly_above e x ≡ false) es ⊎ FirstAbove es x

-- the edge, if it goes through the point, isn't vertical
abbrev pub IsNotUprightAt : Point → Edge → Type 0
IsNotUprightAt p e = on e p ≡ true → e.start.x ≡ e.end.x → ⊥

-- no vertical edge goes through the point, and no listed position is there
pub record MissesUprights (g : Geometry) (p : Point) : Type 0 where
  pub edges : All (IsNotUprightAt p) (edges g)
  pub positions : All (λ a. is_at p a ≡ false) (listed g)

-- just below and just above such a point there are triangles of points that lie where `below` and `above` say
abbrev pub SidesHaveTriangles : Type 0
SidesHaveTriangles = (a b : Geometry) → HasClosedRings a → HasClosedRings b → (s : Point) → IsPoint s → MissesUprights a s → MissesUprights b s
    → HasTriangle (common a (below a s) b (below b s)) × HasTriangle (common a (above a s) b (above b s))

-- the first is straight below the second, nearer than 1/k
pub record IsJustBelow (k : ℕ) (p q : Point) : Type 0 where
  pub straight : IsStraightOver p q
  pub lower : IsLower p q
  pub near : (pos k *ℤ (q.Y *ℤ p.W -ℤ p.Y *ℤ q.W)) <ℤ (p.W *ℤ q.W)

-- a point straight below s and one straight above it, both nearer than 1/k, that lie in g where `below` and `above` say
pub record NearSides (g : Geometry) (s : Point) (k : ℕ) : Type 0 where
  pub under : Point
  pub over : Point
  pub under_is_point : IsPoint under
  pub over_is_point : IsPoint over
  pub is_below : IsJustBelow k under s
  pub is_above : IsJustBelow k s over
  pub under_is : locate g under ≡ below g s
  pub over_is : locate g over ≡ above g s

-- straight below and straight above a point through which no vertical edge goes there are, arbitrarily near, points that lie where `below` and `above` say
abbrev pub SidesAreNear : Type 0
SidesAreNear = (g : Geometry) (s : Point) → IsPoint s → MissesUprights g s → (k : ℕ) → NearSides g s k

-- nearer than some 1/k, all points straight below s lie in g where `below` says, and all straight above it where `above` says
pub record AreAllNear (g : Geometry) (s : Point) : Type 0 where
  pub k : ℕ
  pub under_are : (t : Point) → IsPoint t → IsJustBelow k t s → locate g t ≡ below g s
  pub over_are : (t : Point) → IsPoint t → IsJustBelow k s t → locate g t ≡ above g s

-- straight below and straight above a point through which no vertical edge goes, all points near enough lie where `below` and `above` say
abbrev pub NearPointsAreSo : Type 0
NearPointsAreSo = (g : Geometry) (s : Point) → IsPoint s → MissesUprights g s → AreAllNear g s
