-- The label matrix is the matrix of every two valid geometries, and no other is.
use Rattle.std.proofs.Common.{◌≡◌}
use Rattle.geometry_model.specs.Geometries.{Geometry, rings}
use Rattle.geometry_model.specs.Dimensions.{Matrix, IsMatrix}
use Rattle.geometry_model.specs.Labels.{labelled_matrix}
use Rattle.geometry_model.specs.Validity.{IsValid}
use Rattle.geometry_model.proofs.DimensionFacts.{only_matrix}
use Rattle.geometry_laws.specs.RingLaws.{IsClosed}
use Rattle.geometry_laws.proofs.RingParity.{each_from_all}
use Rattle.matrix_laws.proofs.Closing.{valid_rings_are_closed}
use Rattle.geometry_model.specs.GivenMatrix.{GivesMatrix}
use Rattle.matrix_laws.proofs.Labelled.{labelled_is_matrix}

-- valid geometries have closed rings, so their label matrix is their matrix
pub labels_give_matrix : (a b : Geometry) → IsValid a → IsValid b → IsMatrix a b (labelled_matrix a b)
labels_give_matrix a b va vb = labelled_is_matrix a b (each_from_all IsClosed (rings a) (valid_rings_are_closed a va)) (each_from_all IsClosed (rings b) (valid_rings_are_closed b vb))

-- a set of points has one dimension, so each cell has one value
pub given_matrix_is_unique : (matrix other : Geometry → Geometry → Matrix) → GivesMatrix matrix → GivesMatrix other → (a b : Geometry) → IsValid a → IsValid b → matrix a b ≡ other a b
given_matrix_is_unique matrix other gives also a b va vb = only_matrix a b (matrix a b) (other a b) (gives a b va vb) (also a b va vb)
