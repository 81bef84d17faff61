-- Bytes as valid geometries: the text is read, then the geometry is checked.
use Rattle.std.specs.Prelude.{ℕ, List, Option, Some, None, Result, Ok, Err}
use Rattle.geometry_model.specs.Geometries.{Geometry}
use Rattle.geometry_model.specs.TextReading.{read_text}
use Rattle.geometry_model.specs.FirstFaults.{validity_fault}
use Rattle.geometry_model.specs.declared.text_faults.TextFault.{TextFault}
use Rattle.geometry_model.specs.declared.validity_faults.ValidityFault.{ValidityFault}
use Rattle.geometry_model.specs.declared.geometry_faults.GeometryFault.{GeometryFault}
use Rattle.geometry_model.specs.declared.geometry_faults.GeometryFault.TheVariants as fault

-- a geometry without fault, or its fault
abbrev pub valid_or : Geometry → Option ValidityFault → Result Geometry GeometryFault
valid_or g None = Ok g
valid_or g (Some f) = Err (fault.Invalid f)

-- the valid geometry that was read, or the fault
abbrev pub tested : Result Geometry TextFault → Result Geometry GeometryFault
tested (Ok g) = valid_or g (validity_fault g)
tested (Err f) = Err (fault.Text f)

-- the valid geometry that bytes spell, or the first fault: of the text, then of the geometry (06-103r4, 7.2 and 6.1; the order: this project's choice)
unfoldable pub geometry_in_text : List ℕ → Result Geometry GeometryFault
geometry_in_text bytes = tested (read_text bytes)
