-- Laws of dimensions and matrices, each as one statement.
use Rattle.std.specs.Prelude.{◌≡◌, Bool, IsTrue}
use Rattle.geometry_model.specs.Points.{Point}
use Rattle.geometry_model.specs.Geometries.{Geometry}
use Rattle.geometry_model.specs.Dimensions.{HasDimension, Matrix, IsMatrix, transposed}
use Rattle.geometry_model.specs.declared.point_sets.Dimension.{Dimension}

-- at most one dimension fits a set of points (06-103r4, 6.1.15.2)
abbrev pub DimensionIsUnique : Type 0
DimensionIsUnique = (S : Point → Bool) (d e : Dimension) → HasDimension (λ p. IsTrue (S p)) d → HasDimension (λ p. IsTrue (S p)) e → d ≡ e

-- at most one matrix fits two geometries (06-103r4, 6.1.15.2)
abbrev pub MatrixIsUnique : Type 0
MatrixIsUnique = (a b : Geometry) (m n : Matrix) → IsMatrix a b m → IsMatrix a b n → m ≡ n

-- the matrix of two geometries the other way round is the transposed one (06-103r4, 6.1.15.2)
abbrev pub MatrixIsTransposed : Type 0
MatrixIsTransposed = (a b : Geometry) (m : Matrix) → IsMatrix a b m → IsMatrix b a (transposed m)
