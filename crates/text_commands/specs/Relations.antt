-- Relating two geometries that are given as texts: their matrix, or the failure.
use Rattle.std.specs.Prelude.{◌≡◌, ◌⊎◌, ℕ, List, Option, Some, None, Result, Ok, Err}
use Rattle.geometry_model.specs.CheckedTexts.{tested}
use Rattle.geometry_model.specs.Dimensions.{IsMatrix, Matrix}
use Rattle.geometry_model.specs.Geometries.{Geometry}
use Rattle.geometry_model.specs.TextReading.{read_text}
use Rattle.geometry_model.specs.WellKnownText.{Spells}
use Rattle.geometry_model.specs.declared.geometry_faults.GeometryFault.{GeometryFault}
use Rattle.table_model.specs.RunOutcomes.{MatrixOf}
use Rattle.failures.specs.declared.failure.Failure.{Failure}
use Rattle.failures.specs.declared.failure.Failure.TheVariants as f
use Rattle.failures.specs.declared.failure.GeometryWord.{GeometryWord}
use Rattle.failures.specs.declared.failure.GeometryWord.TheVariants.{First, Second}

-- the geometry, or its fault as the failure of the first or the second text
abbrev pub or_refused : GeometryWord → Result Geometry GeometryFault → Result Geometry Failure
or_refused word (Ok g) = Ok g
or_refused word (Err fault) = Err (f.Refused word fault)

-- the valid geometry that a text spells, or the refusal (06-103r4, 7.2 and 6.1)
abbrev pub geometry_in_word : GeometryWord → List ℕ → Result Geometry Failure
geometry_in_word word text = or_refused word (tested (read_text text))

-- the next step with the value of the first; or the failure of the first
abbrev pub and_then : {A B : Type 0} → Result A Failure → (A → Result B Failure) → Result B Failure
and_then (Ok a) step = step a
and_then (Err failure) step = Err failure

-- the matrix that a function gives of the geometries that two texts spell, or the first refusal: the first text is read and
-- tested before the second (06-103r4, 6.1.15.2; the order: this project's choice)
abbrev pub relation : MatrixOf → List ℕ → List ℕ → Result Matrix Failure
relation matrix first second =
    and_then (geometry_in_word First first) (λ a. and_then (geometry_in_word Second second) (λ b. Ok (matrix a b)))

-- the texts spell two geometries whose DE-9IM matrix this is, over their interiors, boundaries and exteriors as sets of
-- points (06-103r4, 6.1.15.2 and 7.2)
abbrev pub RelatesTexts : List ℕ → List ℕ → Matrix → Type 0
RelatesTexts first second m = (a b : Geometry) × Spells first a × Spells second b × IsMatrix a b m

-- the failure is that of the outcome, or running out of memory
abbrev pub IsFailureOf : {A : Type 0} → Result A Failure → Failure → Type 0
IsFailureOf outcome failure = (failure ≡ f.OutOfMemory) ⊎ (outcome ≡ Err failure)

-- the failure of a geometry's fault, or running out of memory if there is no fault
abbrev pub refused_or_memory : GeometryWord → Option GeometryFault → Failure
refused_or_memory word (Some fault) = f.Refused word fault
refused_or_memory word None = f.OutOfMemory
