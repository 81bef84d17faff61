-- Geometries of arrays.
use Rattle.std.specs.Prelude.{◌≡◌, ℕ, List, length, Some, Ok, Err}
use Rattle.std.specs.Option.{option_map_or}
use Rattle.geometry_model.specs.CheckedTexts.{geometry_in_text}
use Rattle.geometry_model.specs.Geometries.{Geometry}
use Rattle.geometry_model.specs.Points.{Position}
use Rattle.geometry_model.specs.Validity.{IsValid}
use Rattle.geometry_model.specs.WellKnownText.{Writes, geometry_of}
use Rattle.geometry_model.specs.declared.geometry_faults.GeometryFault.{GeometryFault}
use Rattle.geometry_model.specs.declared.shapes.GeometryType.{GeometryType}
use Rattle.library_calls.specs.Written.{fitting_type, geometry_in_arrays, written_as}
use Rattle.library_calls.specs.Refusals.{fault_in_numbers, status_of_text, unknown}
use Rattle.library_calls.specs.Texts.{IsSpelled}
use Rattle.library_calls.specs.declared.faults.Fault.{Fault}

-- the geometry is what is written, without repeats; it is valid, and each text with the same numbers spells it (06-103r4, 6.1 and 7.2)
pub record IsTaken (written g : Geometry) : Type 0 where
  pub meant : g ≡ geometry_of written
  pub valid : IsValid g
  pub taken : geometry_in_arrays written ≡ Ok g
  pub as_text : (text : List ℕ) → Writes written text → IsSpelled text g

-- the number is a type's, the sizes fit it, and the geometry is what the arrays write (06-103r4, 6.1 and 8.2)
pub record IsMade (number : ℕ) (positions : List Position) (lines polygons : List ℕ) (g : Geometry) : Type 0 where
  pub geometry_type : GeometryType
  pub fits : fitting_type number (length positions) lines polygons ≡ Some geometry_type
  pub made : IsTaken (written_as geometry_type positions lines polygons) g

-- what is written isn't a valid geometry: this is its first fault in numbers, and that of each text that writes the same numbers,
-- which are within the limit there (06-103r4, 6.1 and 7.2; the order and the numbers: this project's choice)
pub record IsRefusedArray (written : Geometry) (numbers : Fault) : Type 0 where
  pub fault : GeometryFault
  pub refused : geometry_in_arrays written ≡ Err fault
  pub in_numbers : numbers ≡ fault_in_numbers fault
  pub as_text : (text : List ℕ) → Writes written text → geometry_in_text text ≡ Err fault

-- the same of arrays whose sizes fit a type
pub record AreRefused (number : ℕ) (positions : List Position) (lines polygons : List ℕ) (numbers : Fault) : Type 0 where
  pub geometry_type : GeometryType
  pub fits : fitting_type number (length positions) lines polygons ≡ Some geometry_type
  pub refused : IsRefusedArray (written_as geometry_type positions lines polygons) numbers

-- the status of arrays where memory is enough
abbrev pub status_of_arrays : ℕ → List Position → List ℕ → List ℕ → ℕ
status_of_arrays number positions lines polygons =
    option_map_or (λ geometry_type. status_of_text (geometry_in_arrays (written_as geometry_type positions lines polygons)))
    (fitting_type number (length positions) lines polygons) unknown
