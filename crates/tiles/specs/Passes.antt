-- What one pass over the records of a table returns.
use Rattle.std.specs.Prelude.{◌≡◌, ◌∷◌, ⊤, ℕ, ℤ, List, [], Option, Some, None, Result, Ok, Err}
use Rattle.tiles.specs.declared.plain_records.PlainRecords.{PlainRecords}
use Rattle.feature_table.specs.Outcomes.{IsFailure, Loads}
use Rattle.tiles.specs.PlainRecords.{GivesRest}
use Rattle.feature_table.specs.Tables.{AreRecordsOf}
use Rattle.table_model.specs.Loading.{Record, and_then}
use Rattle.table_model.specs.declared.faults.LoadFault.{LoadFault}
use Rattle.table_model.specs.declared.faults.LoadFault.TheVariants as fault
use Rattle.tiles.specs.Checks.{counted}

-- what a record of this number gives: a value or a fault
abbrev pub Of : Type 0 → Type 0
Of A = ℕ × Record → Result A LoadFault

-- no record was left, or the first of those left was taken and gives this value or this fault
abbrev pub Takes : {R A : Type 0} → (R → Option (List ℕ)) → PlainRecords R → Of A → ℕ → List Record → Result (Option A) LoadFault → Type 0
Takes remaining reader of number rest (Ok None) = rest ≡ []
Takes remaining reader of number rest (Ok (Some x)) =
    (first : Record) × (more : List Record) × (rest ≡ first ∷ more) × (of (number, first) ≡ Ok x) × GivesRest remaining reader more
Takes remaining reader of number rest (Err f) =
    ¬ (IsFailure f) → (first : Record) × (more : List Record) × (rest ≡ first ∷ more) × (of (number, first) ≡ Err f)

-- a value is that of some record, and so is a fault that the definitions give
abbrev pub IsOfRecord : {A : Type 0} → Of A → ℕ → Result (Option A) LoadFault → Type 0
IsOfRecord of number (Ok None) = ⊤
IsOfRecord of number (Ok (Some x)) = (fields : Record) × (of (number, fields) ≡ Ok x)
IsOfRecord of number (Err f) = ¬ (IsFailure f) → (fields : Record) × (of (number, fields) ≡ Err f)

-- there are records of the reader of which this is found, seen through `view`
abbrev pub IsOf : {X Y : Type 0} → Option (List ℕ) → (X → Y) → Result X LoadFault → (List Record → Result Y LoadFault) → Type 0
IsOf known view answer meant = (records : List Record) × AreRecordsOf known records × Loads view answer (meant records)

-- how many rows there are by their keys; none where the one fault is that two keys are equal, whichever they are; or the first
-- fault that isn't one of keys
abbrev pub Counts : Result (Option ℕ) LoadFault → Result (List ℤ) LoadFault → Type 0
Counts (Ok (Some rows)) keys = and_then keys counted ≡ Ok rows
Counts (Ok None) keys = (number : ℕ) × (and_then keys counted ≡ Err (fault.DoubleKey number))
Counts (Err f) keys = ¬ (IsFailure f) → keys ≡ Err f
