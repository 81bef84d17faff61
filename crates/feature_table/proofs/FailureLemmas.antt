-- A fault is a failure of reading or running out of memory, or one that the definitions give.
use Rattle.std.proofs.Common.{◌⊎◌, List, [], inl, inr, refl}
use Rattle.feature_table.specs.Outcomes.{IsFailure}
use Rattle.table_model.specs.declared.faults.LoadFault.{LoadFault}
use Rattle.table_model.specs.declared.faults.LoadFault.TheVariants as fault

-- each fault is one or the other
pub failure_or_not : (f : LoadFault) → IsFailure f ⊎ ¬ (IsFailure f)
failure_or_not fault.ReadFailed = inl (inl refl)
failure_or_not fault.OutOfMemory = inl (inr refl)
failure_or_not f = inr (elim [ inl e ↦ cc e | inr e ↦ cc e ])

-- the records of a fault: those that have it, and none of a failure
pub of_fault : {X : Type 0} (f : LoadFault) (HasFault : List X → Type 0) → (¬ (IsFailure f) → (xs : List X) × HasFault xs)
    → (xs : List X) × (¬ (IsFailure f) → HasFault xs)
of_fault {X = X} f HasFault given = go (failure_or_not f)
  where
    go : IsFailure f ⊎ ¬ (IsFailure f) → (xs : List X) × (¬ (IsFailure f) → HasFault xs)
    go (inl failed) = ([], λ other. absurd (other failed))
    go (inr other) = let found = given other in (found.0, λ again. found.1)
