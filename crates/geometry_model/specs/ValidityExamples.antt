-- Short names for worked examples of faults; geometries are given by their well-known text.
use Rattle.std.specs.Prelude.{ℕ, List, Option, Some, None, Result, Ok, Err}
use Rattle.geometry_model.specs.Geometries.{Geometry}
use Rattle.geometry_model.specs.TextReading.{read_text}
use Rattle.geometry_model.specs.FirstFaults.{validity_fault}
use Rattle.geometry_model.specs.declared.text_faults.TextFault.{TextFault}
use Rattle.geometry_model.specs.declared.validity_faults.ValidityFault.{ValidityFault}

-- the first fault of what was read, if any; the outer None if the text spells nothing
abbrev pub fault_in : Result Geometry TextFault → Option (Option ValidityFault)
fault_in (Ok g) = Some (validity_fault g)
fault_in (Err fault) = None

-- the first fault of what the text spells, if any; the outer None if it spells nothing
abbrev pub fault_of : List ℕ → Option (Option ValidityFault)
fault_of text = fault_in (read_text text)
