-- What it is for a function to give the matrix.
use Rattle.geometry_model.specs.Geometries.{Geometry}
use Rattle.geometry_model.specs.Dimensions.{Matrix, IsMatrix}
use Rattle.geometry_model.specs.Validity.{IsValid}

-- the function gives the matrix of every two valid geometries (06-103r4, 6.1.15.2)
abbrev pub GivesMatrix : (Geometry → Geometry → Matrix) → Type 0
GivesMatrix matrix = (a b : Geometry) → IsValid a → IsValid b → IsMatrix a b (matrix a b)
