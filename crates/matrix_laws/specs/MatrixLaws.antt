-- Labels are the point sets: the label matrix is the DE-9IM matrix.
use Rattle.std.specs.Prelude.{◌≡◌}
use Rattle.geometry_model.specs.Geometries.{Geometry}
use Rattle.geometry_model.specs.Dimensions.{Matrix, IsMatrix}
use Rattle.geometry_model.specs.Labels.{labelled_matrix}
use Rattle.geometry_model.specs.Validity.{IsValid}
use Rattle.geometry_model.specs.GivenMatrix.{GivesMatrix}
use Rattle.geometry_laws.specs.PieceLaws.{HasClosedRings}

-- the label matrix of two geometries whose rings are closed is their matrix (06-103r4, 6.1.15.2)
abbrev pub LabelledIsMatrix : Type 0
LabelledIsMatrix = (a b : Geometry) → HasClosedRings a → HasClosedRings b → IsMatrix a b (labelled_matrix a b)

-- the label matrix of two valid geometries is their matrix (06-103r4, 6.1.15.2)
abbrev pub LabelsArePointSets : Type 0
LabelsArePointSets = (a b : Geometry) → IsValid a → IsValid b → IsMatrix a b (labelled_matrix a b)

-- the label matrix gives the matrix of every two valid geometries (06-103r4, 6.1.15.2)
abbrev pub LabelsGiveMatrix : Type 0
LabelsGiveMatrix = GivesMatrix labelled_matrix

-- any two functions that give the matrix agree on valid geometries (06-103r4, 6.1.15.2)
abbrev pub GivenMatrixIsUnique : Type 0
GivenMatrixIsUnique = (matrix other : Geometry → Geometry → Matrix) → GivesMatrix matrix → GivesMatrix other → (a b : Geometry) → IsValid a → IsValid b → matrix a b ≡ other a b
