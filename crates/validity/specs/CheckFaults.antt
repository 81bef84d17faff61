-- What the fault says with which `check` refuses a geometry.
use Rattle.std.specs.Prelude.{◌≡◌, Option, Some, None, MatchOption}
use Rattle.geometry_model.specs.Geometries.{Geometry}
use Rattle.geometry_model.specs.Validity.{HasFault}
use Rattle.geometry_model.specs.FirstFaults.{validity_fault}
use Rattle.geometry_laws.specs.FaultLaws.{IsFirst}
use Rattle.geometry_model.specs.declared.validity_faults.ValidityFault.{ValidityFault}
use Rattle.geometry_model.specs.declared.validity_faults.ValidityFault.TheVariants as validity
use Rattle.validity.specs.declared.check_fault.CheckFault.{CheckFault}
use Rattle.validity.specs.declared.check_fault.CheckFault.TheVariants as fault

-- the fault of the geometry; none where memory ran out
abbrev pub fault_in : CheckFault → Option ValidityFault
fault_in (fault.TooFewPoints part) = Some (validity.TooFewPoints part)
fault_in (fault.RingNotClosed ring) = Some (validity.RingNotClosed ring)
fault_in (fault.RingNotSimple ring) = Some (validity.RingNotSimple ring)
fault_in (fault.RingsMeet i j) = Some (validity.RingsMeet i j)
fault_in (fault.HoleOutside ring) = Some (validity.HoleOutside ring)
fault_in (fault.HolesNested i j) = Some (validity.HolesNested i j)
fault_in (fault.ElementsMeet i j) = Some (validity.ElementsMeet i j)
fault_in (fault.ElementInside i j) = Some (validity.ElementInside i j)
fault_in fault.OutOfMemory = None

-- the refusal is of the fault that is found first, or of running out of memory
abbrev pub IsFaultOf : Geometry → CheckFault → Type 0
IsFaultOf g f = MatchOption (fault_in f) (Unit {0}) (λ found. validity_fault g ≡ Some found)

-- the refusal is of a fault that applies to this geometry, said of rational points, or of running out of memory (06-103r4, 6.1.7, 6.1.11.1 and 6.1.14)
abbrev pub IsAnyFaultOf : Geometry → CheckFault → Type 0
IsAnyFaultOf g f = MatchOption (fault_in f) (Unit {0}) (λ found. HasFault g found)

-- the refusal is of the first fault that applies in the order of tests, V1 to V8 and within each the least numbers first, or of running out of memory (the order is this project's)
abbrev pub IsFirstFaultOf : Geometry → CheckFault → Type 0
IsFirstFaultOf g f = MatchOption (fault_in f) (Unit {0}) (λ found. IsFirst g found)
