-- The geometry that is given as a text.
use Rattle.std.specs.Prelude.{ℕ, List, Result, Ok, Err}
use Rattle.geometry_model.specs.Geometries.{Geometry}
use Rattle.geometry_model.specs.TextReading.{read_text}
use Rattle.geometry_model.specs.declared.geometry_faults.GeometryFault.TheVariants as g
use Rattle.geometry_model.specs.declared.text_faults.TextFault.{TextFault}
use Rattle.failures.specs.declared.failure.Failure.{Failure}
use Rattle.failures.specs.declared.failure.Failure.TheVariants as f
use Rattle.failures.specs.declared.failure.GeometryWord.TheVariants.{First}

-- the geometry, or the fault of the text as the failure of the first text
abbrev pub or_unread : Result Geometry TextFault → Result Geometry Failure
or_unread (Ok geometry) = Ok geometry
or_unread (Err fault) = Err (f.Refused First (g.Text fault))

-- the geometry that a text spells, valid or not, or the refusal (06-103r4, 7.2)
abbrev pub spelled_geometry : List ℕ → Result Geometry Failure
spelled_geometry text = or_unread (read_text text)
