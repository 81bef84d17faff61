-- Geometries of texts, and their matrix.
use Rattle.std.specs.Prelude.{◌≡◌, ℕ, Bool, List, Ok, Err}
use Rattle.geometry_model.specs.CheckedTexts.{geometry_in_text}
use Rattle.geometry_model.specs.Dimensions.{IsMatrix, Matrix}
use Rattle.geometry_model.specs.Geometries.{Geometry, kind}
use Rattle.geometry_model.specs.Patterns.{matrix_text}
use Rattle.geometry_model.specs.Validity.{IsValid}
use Rattle.geometry_model.specs.WellKnownText.{Spells}
use Rattle.geometry_model.specs.declared.geometry_faults.GeometryFault.{GeometryFault}
use Rattle.library_calls.specs.Relations.{all_hold}
use Rattle.library_calls.specs.Refusals.{fault_in_numbers}
use Rattle.library_calls.specs.declared.faults.Fault.{Fault}

-- the text spells the geometry, which is valid (06-103r4, 7.2 and 6.1)
pub record IsSpelled (text : List ℕ) (g : Geometry) : Type 0 where
  pub spells : Spells text g
  pub valid : IsValid g
  pub read : geometry_in_text text ≡ Ok g

-- the nine characters are those of the matrix of the two valid geometries that the texts spell, over their interiors, boundaries
-- and exteriors as sets of points (06-103r4, 6.1.15.2 and 7.2)
pub record IsTextOfMatrix (first second text : List ℕ) : Type 0 where
  pub one : Geometry
  pub other : Geometry
  pub matrix : Matrix
  pub first_spelled : IsSpelled first one
  pub second_spelled : IsSpelled second other
  pub is_matrix : IsMatrix one other matrix
  pub characters : text ≡ matrix_text matrix

-- the nine characters are those of the matrix of the two valid geometries that the texts spell, and the relations hold of them
-- (06-103r4, 6.1.15.2, 6.1.15.3 and 7.2)
pub record AreAnswers (first second : List ℕ) (text : List ℕ) (held : List Bool) : Type 0 where
  pub one : Geometry
  pub other : Geometry
  pub matrix : Matrix
  pub first_spelled : IsSpelled first one
  pub second_spelled : IsSpelled second other
  pub is_matrix : IsMatrix one other matrix
  pub characters : text ≡ matrix_text matrix
  pub relations : held ≡ all_hold (kind one) (kind other) matrix

-- the text isn't that of a valid geometry, and this is its first fault in numbers (06-103r4, 7.2 and 6.1; the order and the
-- numbers: this project's choice)
abbrev pub IsRefusedFor : List ℕ → Fault → Type 0
IsRefusedFor text numbers = (fault : GeometryFault) × (geometry_in_text text ≡ Err fault) × (numbers ≡ fault_in_numbers fault)
