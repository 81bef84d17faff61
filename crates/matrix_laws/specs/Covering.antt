-- What a matrix has to show of the gaps of an edge, so that it shows all of the edge's points.
use Rattle.std.specs.Prelude.{◌≡◌, ◌≢◌, true, false, List, All, Any}
use Rattle.geometry_model.specs.Points.{Point, IsPoint}
use Rattle.geometry_model.specs.Geometries.{Edge, Geometry, kind, edges, lines, listed}
use Rattle.geometry_model.specs.Sides.{on}
use Rattle.geometry_model.specs.Locations.{is_odd_end, locate}
use Rattle.geometry_model.specs.Dimensions.{Matrix}
use Rattle.geometry_model.specs.Labels.{below, above}
use Rattle.geometry_model.specs.declared.shapes.Kind.TheVariants as kinds
use Rattle.geometry_model.specs.declared.point_sets.Location.{Location}
use Rattle.geometry_model.specs.declared.point_sets.Location.TheVariants.{Interior, Exterior}
use Rattle.geometry_model.specs.declared.point_sets.Dimension.TheVariants.{Zero, One, Two}
use Rattle.matrix_laws.specs.Gaps.{IsBetween, mostly, of_own_edges}
use Rattle.matrix_laws.specs.Cells.{Shows, CoversPosition}

-- the point is on none of the second geometry's edges
abbrev pub IsOffEdges : Geometry → Point → Type 0
IsOffEdges b y = All (λ f. on f y ≡ false) (edges b)

-- each point of the edge is on some of these edges
abbrev pub IsHeld : List Edge → Edge → Type 0
IsHeld es e = (x : Point) → IsPoint x → on e x ≡ true → Any (λ f. on f x ≡ true) es

-- the matrix shows a gap of an edge of a that lies in this part of b, off b's edges: the gap itself, and if the edge isn't vertical its sides; one side is exterior to a, and at an area's edge the other is interior
pub record ShowsOff (a : Geometry) (m : Matrix) (e : Edge) (l : Location) : Type 0 where
  pub piece : Shows m (of_own_edges (kind a)) l One
  pub outer : e.start.x ≢ e.end.x → Shows m Exterior l Two
  pub inner : kind a ≡ kinds.Area → e.start.x ≢ e.end.x → Shows m Interior l Two

-- the matrix shows a gap that an edge of b shares: the gap itself, and its sides as they lie at a point of it
pub record ShowsOn (a b : Geometry) (m : Matrix) (e : Edge) (y : Point) : Type 0 where
  pub piece : Shows m (of_own_edges (kind a)) (of_own_edges (kind b)) One
  pub lower : e.start.x ≢ e.end.x → Shows m (below a y) (below b y) Two
  pub upper : e.start.x ≢ e.end.x → Shows m (above a y) (above b y) Two

-- the matrix shows a gap, by a point within it
pub record ShowsAt (a b : Geometry) (m : Matrix) (e : Edge) (y : Point) : Type 0 where
  pub off : IsOffEdges b y → ShowsOff a m e (mostly b y)
  pub shared : (IsOffEdges b y → ⊥) → ShowsOn a b m e y

-- the matrix shows a gap, by some point within it
pub record ShowsGap (a b : Geometry) (m : Matrix) (e : Edge) (p q : Point) : Type 0 where
  pub sample : Point
  pub between : IsBetween e p q sample
  pub shows : ShowsAt a b m e sample

-- the matrix shows all odd ends of lines, and all listed positions of the second geometry
pub record ShowsEnds (a b : Geometry) (m : Matrix) : Type 0 where
  pub of_first : kind a ≡ kinds.Line → (x : Point) → IsPoint x → is_odd_end (lines a) x ≡ true → Shows m (locate a x) (locate b x) Zero
  pub of_second : kind b ≡ kinds.Line → (x : Point) → IsPoint x → is_odd_end (lines b) x ≡ true → Shows m (locate a x) (locate b x) Zero
  pub positions : All (CoversPosition a b m) (listed b)
