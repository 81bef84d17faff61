-- The law that ties arrays to texts, and that of the tests of both.
use Rattle.std.specs.Prelude.{◌≡◌, ◌↔◌, true, ℕ, List}
use Rattle.fraction.specs.Ranges.{IsOnGrid}
use Rattle.geometry_model.specs.CheckedTexts.{geometry_in_text}
use Rattle.geometry_model.specs.Geometries.{Geometry}
use Rattle.geometry_model.specs.Points.{Position}
use Rattle.geometry_model.specs.WellKnownText.{IsWithinCounts, Writes}
use Rattle.library_calls.specs.Written.{geometry_in_arrays, is_on_grid, is_within_counts}

-- what the arrays write is the valid geometry, or has the fault, of each text that writes the same numbers (06-103r4, 7.2 and 6.1)
abbrev pub ArraysAreAsTexts : Type 0
ArraysAreAsTexts = (written : Geometry) (text : List ℕ) → Writes written text → geometry_in_text text ≡ geometry_in_arrays written

-- the tests of counts and of a position are true exactly where the definitions are so (this project's choice)
abbrev pub TestsAreLimits : Type 0
TestsAreLimits = ((written : Geometry) → (is_within_counts written ≡ true) ↔ IsWithinCounts written) × ((p : Position) → (is_on_grid p ≡ true) ↔ IsOnGrid p)
