-- What the matrix of two geometries that are given as texts is.
use Rattle.std.proofs.Common.{◌≡◌, ◌∙◌, ap, ℕ, List, Ok}
use Rattle.geometry_model.specs.Dimensions.{IsMatrix, Matrix}
use Rattle.geometry_model.specs.Geometries.{Geometry}
use Rattle.geometry_model.specs.GivenMatrix.{GivesMatrix}
use Rattle.geometry_model.specs.Validity.{IsValid}
use Rattle.geometry_model.proofs.DimensionFacts.{only_matrix}
use Rattle.table_model.specs.RunOutcomes.{MatrixOf}
use Rattle.text_commands.specs.Relations.{and_then, geometry_in_word, relation}
use Rattle.failures.specs.declared.failure.GeometryWord.TheVariants.{First, Second}

-- two valid geometries have one matrix, so every function that gives it gives this one
pub relates : (matrix : MatrixOf) → GivesMatrix matrix → (first second : List ℕ) (a b : Geometry) (m : Matrix) → geometry_in_word First first ≡ Ok a
    → geometry_in_word Second second ≡ Ok b → IsValid a → IsValid b → IsMatrix a b m → relation matrix first second ≡ Ok m
relates matrix gives first second a b m first_read second_read first_valid second_valid is_matrix =
    ap (λ r. and_then r (λ g. and_then (geometry_in_word Second second) (λ h. Ok (matrix g h)))) first_read
    ∙ ap (λ r. and_then r (λ h. Ok (matrix a h))) second_read
    ∙ ap Ok (only_matrix a b (matrix a b) m (gives a b first_valid second_valid) is_matrix)
