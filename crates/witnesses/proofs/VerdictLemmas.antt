-- The first fault of a geometry that is read twice.
use Rattle.std.proofs.Common.{◌≡◌, subst, List, ℕ, Result, Ok}
use Rattle.geometry_model.specs.Geometries.{Geometry}
use Rattle.geometry_model.specs.TextReading.{read_text}
use Rattle.geometry_model.specs.declared.text_faults.TextFault.{TextFault}
use Rattle.geometry_model.specs.declared.validity_faults.ValidityFault.{ValidityFault}
use Rattle.witnesses.specs.Verdicts.{HasFirstFault, IsFirstFaultIn}

-- a text is read as one geometry
same_read : (r : Result Geometry TextFault) (a b : Geometry) → r ≡ Ok a → r ≡ Ok b → a ≡ b
same_read r a b first second = cc

-- the geometry that the text is read as again has the fault
pub first_fault_of : (text : List ℕ) (fault : ValidityFault) (geometry : Geometry) → IsFirstFaultIn text fault → read_text text ≡ Ok geometry → HasFirstFault geometry fault
first_fault_of text fault geometry found read =
    subst (λ a. HasFirstFault a fault) (same_read (read_text text) found.geometry geometry found.read read) found.has
