-- Laws of covering: a matrix that shows the gaps of an edge and what they share with the other geometry covers the edge.
use Rattle.std.specs.Prelude.{◌≡◌, ◌≢◌, All, Contains}
use Rattle.geometry_model.specs.Points.{Point}
use Rattle.geometry_model.specs.Geometries.{Edge, Geometry, kind, edges}
use Rattle.geometry_model.specs.Locations.{locate}
use Rattle.geometry_model.specs.Pieces.{stretches}
use Rattle.geometry_model.specs.Dimensions.{Matrix}
use Rattle.geometry_model.specs.Labels.{labelled_matrix}
use Rattle.geometry_model.specs.Validity.{IsValid}
use Rattle.geometry_model.specs.declared.shapes.Kind.TheVariants as kinds
use Rattle.geometry_model.specs.declared.point_sets.Location.TheVariants.{Interior, Exterior}
use Rattle.geometry_model.specs.declared.point_sets.Dimension.TheVariants.{Zero, One, Two}
use Rattle.matrix_laws.specs.Gaps.{EdgeGaps, AreGaps, IsBetween, IsGap, SharesNoStretch, of_own_edges}
use Rattle.matrix_laws.specs.Cells.{Shows, Covers}
use Rattle.matrix_laws.specs.Covering.{IsHeld, ShowsAt, ShowsGap, ShowsOff, ShowsEnds}

-- what a gap of an edge of a shows of two valid geometries is in their matrix (06-103r4, 6.1.15.2)
abbrev pub GapIsThere : Type 0
GapIsThere = (a b : Geometry) → IsValid a → IsValid b → (e : Edge) → Contains (edges a) e → e.start ≢ e.end → (p q y : Point) → IsGap e (edges b) p q → IsBetween e p q y → ShowsAt a b (labelled_matrix a b) e y

-- a matrix that shows all gaps of an edge of a, the points that it shares with b, and all ends, covers the edge
abbrev pub GapsCover : Type 0
GapsCover = (a b : Geometry) → IsValid a → IsValid b → (e : Edge) → Contains (edges a) e → e.start ≢ e.end → (g : EdgeGaps) → AreGaps e (edges b) g → (m : Matrix) → ShowsEnds a b m
    → All (λ c. ShowsGap a b m e c.lesser c.greater) (stretches g.stops) → All (λ p. Shows m (locate a p) (locate b p) Zero) g.shared → Covers a b m e

-- the matrix shows all that gaps of this edge of a can show that lie off b's edges: a vertical edge has no sides to show
pub record IsFullOff (a b : Geometry) (m : Matrix) (e : Edge) : Type 0 where
  pub in_exterior : ShowsOff a m e Exterior
  pub in_interior : kind b ≡ kinds.Area → ShowsOff a m e Interior

-- the matrix shows all that gaps can show that an edge of b shares: that both geometries' edges share a stretch, and an area of each two parts in which sides can be
pub record IsFullOn (a b : Geometry) (m : Matrix) : Type 0 where
  pub piece : Shows m (of_own_edges (kind a)) (of_own_edges (kind b)) One
  pub outer : Shows m Exterior Exterior Two
  pub inner : kind a ≡ kinds.Area → kind b ≡ kinds.Area → Shows m Interior Interior Two
  pub first : kind a ≡ kinds.Area → Shows m Interior Exterior Two
  pub second : kind b ≡ kinds.Area → Shows m Exterior Interior Two

-- the matrix shows all that gaps of this edge can show that an edge of b shares: a vertical edge has no sides to show
pub record IsFullAlong (a b : Geometry) (m : Matrix) (e : Edge) : Type 0 where
  pub piece : Shows m (of_own_edges (kind a)) (of_own_edges (kind b)) One
  pub sides : e.start.x ≢ e.end.x → IsFullOn a b m

-- a matrix that shows all that gaps of an edge of a can show covers the edge, whatever meets it
abbrev pub FullCovers : Type 0
FullCovers = (a b : Geometry) → IsValid a → IsValid b → (e : Edge) → Contains (edges a) e → e.start ≢ e.end → (m : Matrix)
    → ShowsEnds a b m → IsFullOff a b m e → IsFullAlong a b m e → Covers a b m e

-- where no edge of b shares a stretch with an edge of a, it is enough that the matrix shows all that gaps of the edge can show off b's edges, and that both geometries' edges share a point
abbrev pub FullOffCovers : Type 0
FullOffCovers = (a b : Geometry) → IsValid a → IsValid b → (e : Edge) → Contains (edges a) e → e.start ≢ e.end → (m : Matrix)
    → ShowsEnds a b m → IsFullOff a b m e → Shows m (of_own_edges (kind a)) (of_own_edges (kind b)) Zero → SharesNoStretch e (edges b) → Covers a b m e

-- where edges of b hold all of an edge of a, it is enough that the matrix shows all that its gaps can show there
abbrev pub HeldCovers : Type 0
HeldCovers = (a b : Geometry) (e : Edge) → Contains (edges a) e → (m : Matrix) → ShowsEnds a b m → IsHeld (edges b) e → IsFullAlong a b m e → Covers a b m e

-- or that it covers the edges of b
abbrev pub HeldByCovered : Type 0
HeldByCovered = (a b : Geometry) (e : Edge) → Contains (edges a) e → e.start ≢ e.end → (m : Matrix) → All (Covers a b m) (edges b) → IsHeld (edges b) e → Covers a b m e
