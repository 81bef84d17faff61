-- What loading returns where reading may fail or memory run out.
use Rattle.std.specs.Prelude.{◌≡◌, ◌⊎◌, ℕ, Bool, true, false, Option, None, Some, Result, Ok, Err}
use Rattle.table_model.specs.declared.faults.LoadFault.{LoadFault}
use Rattle.table_model.specs.declared.faults.LoadFault.TheVariants as fault
use Rattle.table_model.specs.declared.faults.TableFault.{TableFault}

-- a fault that no definition gives: reading failed, or memory ran out
abbrev pub IsFailure : LoadFault → Type 0
IsFailure f = (f ≡ fault.ReadFailed) ⊎ (f ≡ fault.OutOfMemory)

-- whether a fault says that reading failed
abbrev pub is_of_reading : LoadFault → Bool
is_of_reading fault.MissingColumn = false
is_of_reading fault.DoubleHeader = false
is_of_reading (fault.UnequalRecord number) = false
is_of_reading (fault.NotUtf8 number) = false
is_of_reading (fault.BadInteger number) = false
is_of_reading (fault.BadGeometry number why) = false
is_of_reading (fault.WrongType number) = false
is_of_reading (fault.NullNotAllowed number) = false
is_of_reading (fault.DoubleKey number) = false
is_of_reading fault.TooManyRows = false
is_of_reading fault.ReadFailed = true
is_of_reading fault.OutOfMemory = false

-- the number of the record that shows a fault; a fault of the header, of several records or of no record has none
abbrev pub record_in : LoadFault → Option ℕ
record_in fault.MissingColumn = None
record_in fault.DoubleHeader = None
record_in (fault.UnequalRecord number) = Some number
record_in (fault.NotUtf8 number) = Some number
record_in (fault.BadInteger number) = Some number
record_in (fault.BadGeometry number why) = Some number
record_in (fault.WrongType number) = Some number
record_in (fault.NullNotAllowed number) = Some number
record_in (fault.DoubleKey number) = None
record_in fault.TooManyRows = None
record_in fault.ReadFailed = None
record_in fault.OutOfMemory = None

-- a call returns what the definitions give, its value seen through `view`, unless reading failed or memory ran out
abbrev pub Loads : {X Y : Type 0} → (X → Y) → Result X LoadFault → Result Y LoadFault → Type 0
Loads view (Ok x) answer = answer ≡ Ok (view x)
Loads view (Err f) answer = ¬ (IsFailure f) → answer ≡ Err f

-- the same of a result whose fault names a table
abbrev pub LoadsTable : {X Y : Type 0} → (X → Y) → Result X TableFault → Result Y TableFault → Type 0
LoadsTable view (Ok x) answer = answer ≡ Ok (view x)
LoadsTable view (Err f) answer = ¬ (IsFailure f.fault) → answer ≡ Err f
