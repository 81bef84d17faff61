-- Whether a geometry that is given as a text is valid, and where it isn't.
use Rattle.std.specs.Prelude.{◌≡◌, ℕ, List, Some, Ok}
use Rattle.geometry_model.specs.FirstFaults.{validity_fault}
use Rattle.geometry_model.specs.Geometries.{Geometry}
use Rattle.geometry_model.specs.TextReading.{read_text}
use Rattle.geometry_model.specs.Validity.{HasFault, IsValid}
use Rattle.geometry_model.specs.WellKnownText.{Spells}
use Rattle.geometry_model.specs.declared.validity_faults.ValidityFault.{ValidityFault}
use Rattle.witnesses.specs.FaultPlaces.{IsPlaceOf}
use Rattle.witnesses.specs.declared.verdict.Verdict.{Verdict}
use Rattle.witnesses.specs.declared.verdict.Verdict.TheVariants as verdicts

-- the geometry has this fault, and it is the first in the order of tests (06-103r4, 6.1.7, 6.1.11.1 and 6.1.14; the order: this project's choice)
pub record HasFirstFault (geometry : Geometry) (fault : ValidityFault) : Type 0 where
  pub first : validity_fault geometry ≡ Some fault
  pub applies : HasFault geometry fault

-- valid if no fault applies; else the first fault, and a place of it (06-103r4, 6.1.7, 6.1.11.1 and 6.1.14)
abbrev pub IsVerdictOn : Geometry → Verdict → Type 0
IsVerdictOn geometry verdicts.Valid = IsValid geometry
IsVerdictOn geometry (verdicts.Faulty fault place) = HasFirstFault geometry fault × IsPlaceOf geometry fault place

-- the text spells a geometry, and this is the verdict on it (06-103r4, 7.2)
pub record IsVerdictOf (text : List ℕ) (verdict : Verdict) : Type 0 where
  pub geometry : Geometry
  pub spelled : Spells text geometry
  pub holds : IsVerdictOn geometry verdict

-- ---- a step by which verdicts are found

-- the geometry that a text is read as has this fault, and it is the first
pub record IsFirstFaultIn (text : List ℕ) (fault : ValidityFault) : Type 0 where
  pub geometry : Geometry
  pub read : read_text text ≡ Ok geometry
  pub has : HasFirstFault geometry fault
