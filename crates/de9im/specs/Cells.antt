-- The matrix that a search for cells begins with.
use Rattle.geometry_model.specs.Dimensions.{Matrix, matrix_of}
use Rattle.geometry_model.specs.declared.point_sets.Dimension.TheVariants.{Empty, Two}

-- the matrix that shows only that the exteriors share an area (06-103r4, 6.1.15.2)
abbrev pub of_exteriors : Matrix
of_exteriors = record (matrix_of (λ l k. Empty)) { exterior_exterior = Two }
