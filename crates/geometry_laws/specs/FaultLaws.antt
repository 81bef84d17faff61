-- Laws of the faults of geometries.
use Rattle.std.specs.Prelude.{◌≡◌, ◌↔◌, ℕ, true, List, ◌∷◌, ◌++◌, Contains, Some, None}
use Rattle.geometry_model.specs.Geometries.{Geometry}
use Rattle.geometry_model.specs.Validity.{HasFault, IsValid}
use Rattle.geometry_model.specs.FirstFaults.{has_fault, in_order, validity_fault}
use Rattle.geometry_model.specs.declared.validity_faults.ValidityFault.{ValidityFault}
use Rattle.geometry_model.specs.declared.validity_faults.ValidityFault.TheVariants.{RingNotClosed}

-- each ring is closed (06-103r4, 6.1.7: LinearRing)
abbrev pub AreClosed : Geometry → Type 0
AreClosed g = (i : ℕ) → HasFault g (RingNotClosed i) → ⊥

-- where each ring is closed, each test in whole numbers agrees with its fault, a fact about rational points
abbrev pub FaultIsDecided : Type 0
FaultIsDecided = (g : Geometry) (fault : ValidityFault) → AreClosed g → (has_fault g fault ≡ true) ↔ HasFault g fault

-- the first fault that is found applies
abbrev pub FirstFaultApplies : Type 0
FirstFaultApplies = (g : Geometry) (fault : ValidityFault) → validity_fault g ≡ Some fault → HasFault g fault

-- no fault is found exactly if the geometry is valid
abbrev pub NoneIsFoundWhereValid : Type 0
NoneIsFoundWhereValid = (g : Geometry) → (validity_fault g ≡ None) ↔ IsValid g

-- the fault applies, at a place in the order of tests before which none applies
pub record IsFirst (g : Geometry) (fault : ValidityFault) : Type 0 where
  pub before : List ValidityFault
  pub after : List ValidityFault
  pub placed : in_order g ≡ before ++ fault ∷ after
  pub applies : HasFault g fault
  pub none_before : (earlier : ValidityFault) → Contains before earlier → HasFault g earlier → ⊥

-- the fault that is found is the first that applies
abbrev pub FirstFaultIsFirst : Type 0
FirstFaultIsFirst = (g : Geometry) (fault : ValidityFault) → validity_fault g ≡ Some fault → IsFirst g fault

-- wherever the order of tests is split at the fault that is found, none before it applies
abbrev pub NoEarlierFaultApplies : Type 0
NoEarlierFaultApplies = (g : Geometry) (fault : ValidityFault) (before after : List ValidityFault) → validity_fault g ≡ Some fault → in_order g ≡ before ++ fault ∷ after
    → (earlier : ValidityFault) → Contains before earlier → HasFault g earlier → ⊥
