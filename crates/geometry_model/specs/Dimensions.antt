-- The dimension of a set of points, and the DE-9IM matrix of two geometries.
use Rattle.std.specs.Prelude.{◌≡◌, ◌≢◌, ℕ, ◌+◌, ◌<◌, false, ℤ, pos, ◌+ℤ◌, ◌-ℤ◌, ◌*ℤ◌}
use Rattle.geometry_model.specs.Points.{Point, IsPoint, same_point}
use Rattle.geometry_model.specs.Geometries.{Geometry}
use Rattle.geometry_model.specs.Locations.{part}
use Rattle.geometry_model.specs.declared.point_sets.Location.{Location}
use Rattle.geometry_model.specs.declared.point_sets.Location.TheVariants.{Interior, Boundary, Exterior}
use Rattle.geometry_model.specs.declared.point_sets.Dimension.{Dimension}
use Rattle.geometry_model.specs.declared.point_sets.Dimension.TheVariants.{Empty, Zero, One, Two}

-- a point of the segment from p to q, weighted by m and n; all weights but two zeros give all its rational points
abbrev pub weighted : ℕ → Point → ℕ → Point → Point
weighted m p n q = record {
  X = pos m *ℤ p.X +ℤ pos n *ℤ q.X;
  Y = pos m *ℤ p.Y +ℤ pos n *ℤ q.Y;
  W = pos m *ℤ p.W +ℤ pos n *ℤ q.W;
}

-- a point of the triangle of p, q and r, weighted by k, m and n; all weights but three zeros give all its rational points
abbrev pub weighted_three : ℕ → Point → ℕ → Point → ℕ → Point → Point
weighted_three k p m q n r = record {
  X = pos k *ℤ p.X +ℤ pos m *ℤ q.X +ℤ pos n *ℤ r.X;
  Y = pos k *ℤ p.Y +ℤ pos m *ℤ q.Y +ℤ pos n *ℤ r.Y;
  W = pos k *ℤ p.W +ℤ pos m *ℤ q.W +ℤ pos n *ℤ r.W;
}

-- twice the signed area of the triangle of three points, times each W: 0 exactly if they are on one line
abbrev pub area : Point → Point → Point → ℤ
area p q r =
    (p.X *ℤ (q.Y *ℤ r.W -ℤ r.Y *ℤ q.W) -ℤ p.Y *ℤ (q.X *ℤ r.W -ℤ r.X *ℤ q.W))
    +ℤ p.W *ℤ (q.X *ℤ r.Y -ℤ r.X *ℤ q.Y)

-- the set holds a point (06-103r4, 6.1.15.2)
pub record HasPoint (S : Point → Type 0) : Type 0 where
  pub p : Point
  pub is_point : IsPoint p
  pub within : S p

-- the set holds a segment: all points between two different ones (06-103r4, 6.1.15.2; as all weighted sums: this project's choice)
pub record HasSegment (S : Point → Type 0) : Type 0 where
  pub p : Point
  pub q : Point
  pub p_is_point : IsPoint p
  pub q_is_point : IsPoint q
  pub differ : same_point p q ≡ false
  pub within : (m n : ℕ) → 0 < m + n → S (weighted m p n q)

-- the set holds a triangle: all points between three that aren't on one line (06-103r4, 6.1.15.2; as all weighted sums: this project's choice)
pub record HasTriangle (S : Point → Type 0) : Type 0 where
  pub p : Point
  pub q : Point
  pub r : Point
  pub p_is_point : IsPoint p
  pub q_is_point : IsPoint q
  pub r_is_point : IsPoint r
  pub not_on_one_line : area p q r ≢ pos 0
  pub within : (k m n : ℕ) → 0 < k + m + n → S (weighted_three k p m q n r)

-- the dimension of a set of points, by the largest of triangle, segment and point that it holds (06-103r4, 6.1.15.2: dim of an intersection)
abbrev pub HasDimension : (Point → Type 0) → Dimension → Type 0
HasDimension S Two = HasTriangle S
HasDimension S One = HasSegment S × ¬ (HasTriangle S)
HasDimension S Zero = HasPoint S × ¬ (HasSegment S)
HasDimension S Empty = ¬ (HasPoint S)

-- the DE-9IM matrix: the dimension of each part of the first geometry with each part of the second (06-103r4, 6.1.15.2)
pub record Matrix : Type 0 where
  pub interior_interior : Dimension
  pub interior_boundary : Dimension
  pub interior_exterior : Dimension
  pub boundary_interior : Dimension
  pub boundary_boundary : Dimension
  pub boundary_exterior : Dimension
  pub exterior_interior : Dimension
  pub exterior_boundary : Dimension
  pub exterior_exterior : Dimension

-- the cell of a part of the first geometry and a part of the second (06-103r4, 6.1.15.2)
abbrev pub cell : Matrix → Location → Location → Dimension
cell m Interior Interior = m.interior_interior
cell m Interior Boundary = m.interior_boundary
cell m Interior Exterior = m.interior_exterior
cell m Boundary Interior = m.boundary_interior
cell m Boundary Boundary = m.boundary_boundary
cell m Boundary Exterior = m.boundary_exterior
cell m Exterior Interior = m.exterior_interior
cell m Exterior Boundary = m.exterior_boundary
cell m Exterior Exterior = m.exterior_exterior

-- the matrix whose cell for each two parts is what the function returns (06-103r4, 6.1.15.2)
abbrev pub matrix_of : (Location → Location → Dimension) → Matrix
matrix_of d = record {
  interior_interior = d Interior Interior;
  interior_boundary = d Interior Boundary;
  interior_exterior = d Interior Exterior;
  boundary_interior = d Boundary Interior;
  boundary_boundary = d Boundary Boundary;
  boundary_exterior = d Boundary Exterior;
  exterior_interior = d Exterior Interior;
  exterior_boundary = d Exterior Boundary;
  exterior_exterior = d Exterior Exterior;
}

-- the points in part l of a and in part k of b (06-103r4, 6.1.15.2)
abbrev pub common : Geometry → Location → Geometry → Location → Point → Type 0
common a l b k p = part a l p × part b k p

-- the matrix is that of a and b: each cell is the dimension of what its two parts share (06-103r4, 6.1.15.2)
abbrev pub IsMatrix : Geometry → Geometry → Matrix → Type 0
IsMatrix a b m = (l k : Location) → HasDimension (common a l b k) (cell m l k)

-- the matrix of the two geometries the other way round
abbrev pub transposed : Matrix → Matrix
transposed m = matrix_of (λ l k. cell m k l)
