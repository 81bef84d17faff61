-- What a matrix shows of two geometries so far, and what it has to show of the points of an edge.
use Rattle.std.specs.Prelude.{◌≡◌, ◌≢◌, true, false, Bool, ◌&&◌, ◌++◌, if◌then◌else◌}
use Rattle.geometry_model.specs.Points.{Position, Point, IsPoint, point_at}
use Rattle.geometry_model.specs.Geometries.{Edge, Geometry, listed}
use Rattle.geometry_model.specs.Sides.{on}
use Rattle.geometry_model.specs.CutPoints.{IsCut}
use Rattle.geometry_model.specs.Locations.{locate}
use Rattle.geometry_model.specs.Dimensions.{Matrix, cell, matrix_of}
use Rattle.geometry_model.specs.Labels.{below, above, edges_of_both, labelled_matrix, same_location}
use Rattle.geometry_model.specs.declared.point_sets.Location.{Location}
use Rattle.geometry_model.specs.declared.point_sets.Dimension.{Dimension}
use Rattle.geometry_model.specs.declared.point_sets.Dimension.TheVariants.{Empty, Zero, One, Two}

-- the first dimension isn't greater than the second (06-103r4, 6.1.15.2)
abbrev pub at_most : Dimension → Dimension → Bool
at_most Empty d = true
at_most Zero Empty = false
at_most Zero Zero = true
at_most Zero One = true
at_most Zero Two = true
at_most One Empty = false
at_most One Zero = false
at_most One One = true
at_most One Two = true
at_most Two Empty = false
at_most Two Zero = false
at_most Two One = false
at_most Two Two = true

-- the greater of two dimensions
abbrev pub greater : Dimension → Dimension → Dimension
greater d e = if at_most d e then e else d

-- the matrix shows at least this dimension of these two parts
abbrev pub Shows : Matrix → Location → Location → Dimension → Type 0
Shows m l k d = at_most d (cell m l k) ≡ true

-- the matrix with the cell of two parts raised to this dimension
abbrev pub raised : Matrix → Location → Location → Dimension → Matrix
raised m l k d = matrix_of (λ i j. if same_location i l && same_location j k then greater d (cell m i j) else cell m i j)

-- no cell of the first matrix is greater than that of the second
abbrev pub IsPartOf : Matrix → Matrix → Type 0
IsPartOf m n = (l k : Location) → Shows n l k (cell m l k)

-- the matrix shows only what is there, of these two geometries
abbrev pub IsSound : Geometry → Geometry → Matrix → Type 0
IsSound a b m = IsPartOf m (labelled_matrix a b)

-- the point isn't a cut of the two geometries
abbrev pub IsNoCut : Geometry → Geometry → Point → Type 0
IsNoCut a b x = IsCut (edges_of_both a b) (listed a ++ listed b) x → ⊥

-- the matrix shows a point in the two parts where x lies; if x isn't a cut, a piece there, and if the edge isn't vertical, both sides
pub record ShowsPoint (a b : Geometry) (m : Matrix) (e : Edge) (x : Point) : Type 0 where
  pub point : Shows m (locate a x) (locate b x) Zero
  pub piece : IsNoCut a b x → Shows m (locate a x) (locate b x) One
  pub lower : IsNoCut a b x → e.start.x ≢ e.end.x → Shows m (below a x) (below b x) Two
  pub upper : IsNoCut a b x → e.start.x ≢ e.end.x → Shows m (above a x) (above b x) Two

-- the matrix shows this of all points of an edge
abbrev pub Covers : Geometry → Geometry → Matrix → Edge → Type 0
Covers a b m e = (x : Point) → IsPoint x → on e x ≡ true → ShowsPoint a b m e x

-- the matrix shows the point at a listed position
abbrev pub CoversPosition : Geometry → Geometry → Matrix → Position → Type 0
CoversPosition a b m p = Shows m (locate a (point_at p)) (locate b (point_at p)) Zero
