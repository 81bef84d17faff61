-- What contracts see of the records of a table that are read without a bound.
use Rattle.std.specs.Prelude.{◌≡◌, ◌⊎◌, ℕ, Bool, true, List, [], Option, Some}
use Rattle.std.specs.List.{Any}
use Rattle.feature_table.specs.Reading.{IsSteady, StillGives, TakesFirst}
use Rattle.feature_table.specs.Records.{records_in}
use Rattle.table_model.specs.Loading.{Record}
use Rattle.table_model.specs.declared.faults.LoadFault.{LoadFault}
use Rattle.table_model.specs.declared.faults.LoadFault.TheVariants as fault
use Rattle.tiles.specs.declared.plain_records.PlainRecords.{PlainRecords}

-- whether the last that csv returned was that reading failed
abbrev pub read_failed : {R : Type 0} → PlainRecords R → Bool
read_failed r = r.read_failed

-- a record may be read: none was refused yet
abbrev pub IsReady : {R : Type 0} → PlainRecords R → Type 0
IsReady r = IsSteady r.reader

-- the bytes underneath are known, and these records of them are left
abbrev pub GivesRest : {R : Type 0} → (R → Option (List ℕ)) → PlainRecords R → List Record → Type 0
GivesRest remaining r rest = StillGives remaining r.reader rest

-- the first of the records that were left was taken, or none was left
abbrev pub TakesNext : {R : Type 0} → (R → Option (List ℕ)) → PlainRecords R → List Record → Bool → Record → Type 0
TakesNext remaining r rest found fields = TakesFirst remaining r.reader rest found fields

-- these are all records of some bytes, if they are known: none was read yet
abbrev pub AreAllOf : {R : Type 0} → (R → Option (List ℕ)) → Option (List ℕ) → PlainRecords R → Type 0
AreAllOf remaining known r = (text : List ℕ) → known ≡ Some text → GivesRest remaining r (records_in text)

-- memory ran out
abbrev pub IsMemory : LoadFault → Type 0
IsMemory f = f ≡ fault.OutOfMemory

-- of the records that are left one is of this kind, if the bytes underneath are known
abbrev pub HasLeft : {R : Type 0} → (R → Option (List ℕ)) → PlainRecords R → (Record → Type 0) → Type 0
HasLeft remaining r IsBad = (rest : List Record) → GivesRest remaining r rest → Any IsBad rest

-- no record is left, if the bytes underneath are known
abbrev pub HasNoneLeft : {R : Type 0} → (R → Option (List ℕ)) → PlainRecords R → Type 0
HasNoneLeft remaining r = (rest : List Record) → GivesRest remaining r rest → rest ≡ []

-- memory ran out; or the fault is one of reading, and either csv returned one, or the records are spoilt
abbrev pub IsReadFault : {R : Type 0} → PlainRecords R → Type 0 → LoadFault → Type 0
IsReadFault r AreSpoilt f = IsMemory f ⊎ ((f ≡ fault.ReadFailed) × ((r.read_failed ≡ true) ⊎ AreSpoilt))
