-- The first fault, and the geometries that have none.
use Rattle.std.proofs.Common.{◌≡◌, sym, ◌∙◌, subst, Some, None}
use Rattle.std.specs.Option.{MatchOption}
use Rattle.geometry_model.specs.Geometries.{Geometry}
use Rattle.geometry_model.specs.Validity.{HasFault, IsValid}
use Rattle.geometry_model.specs.FirstFaults.{validity_fault}
use Rattle.geometry_model.specs.declared.validity_faults.ValidityFault.{ValidityFault}
use Rattle.validity.specs.CheckFaults.{fault_in, IsFaultOf, IsFirstFaultOf, IsAnyFaultOf}
use Rattle.validity.specs.declared.check_fault.CheckFault.{CheckFault}
use Rattle.geometry_laws.specs.FaultLaws.{IsFirst}
use Rattle.geometry_laws.proofs.FirstPlace.{first_fault_is_first}
use Rattle.geometry_laws.proofs.FirstFaultFacts.{none_is_found_where_valid}

-- a geometry in which no fault is found is valid, since the test finds one wherever one applies
pub no_fault_valid : (g : Geometry) → validity_fault g ≡ None → IsValid g
no_fault_valid g none = (none_is_found_where_valid g).0 none

-- the fault that is found is the first that applies
pub first_is_there : (g : Geometry) (refusal : CheckFault) (fault : ValidityFault) → fault_in refusal ≡ Some fault → validity_fault g ≡ Some fault → IsFirstFaultOf g refusal
first_is_there g refusal fault says found = subst (λ o. MatchOption o (Unit {0}) (λ f. IsFirst g f)) (sym says) (first_fault_is_first g fault found)

-- and it applies
pub found_applies : (g : Geometry) (refusal : CheckFault) (fault : ValidityFault) → fault_in refusal ≡ Some fault → validity_fault g ≡ Some fault → IsAnyFaultOf g refusal
found_applies g refusal fault says found = subst (λ o. MatchOption o (Unit {0}) (λ f. HasFault g f)) (sym says) (first_fault_is_first g fault found).applies

-- the refusal is of the fault that is found
pub found_is_shown : (g : Geometry) (refusal : CheckFault) (fault : ValidityFault) → fault_in refusal ≡ Some fault → validity_fault g ≡ Some fault → IsFaultOf g refusal
found_is_shown g refusal fault says found = subst (λ o. MatchOption o (Unit {0}) (λ f. validity_fault g ≡ Some f)) (sym says) found
