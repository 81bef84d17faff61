-- Records that were read from the beginning of a CSV text.
use Rattle.std.specs.Prelude.{◌≡◌, ◌++◌, ℕ, Bool, true, false, List, [], ◌∷◌, Option, None, Some, slice_get}
use Rattle.feature_table.specs.Records.{Gives, records_in}
use Rattle.feature_table.specs.declared.records.Records.{Records}
use Rattle.table_model.specs.Loading.{Record}

-- if the bytes are known, the records that csv reads from them begin with these
abbrev pub BeginWith : Option (List ℕ) → List Record → Type 0
BeginWith known read = (text : List ℕ) → known ≡ Some text → (rest : List Record) × (records_in text ≡ read ++ rest)

-- if the bytes are known, they have no record of this number; that of number 0 is the header
abbrev pub IsAbsent : Option (List ℕ) → ℕ → Type 0
IsAbsent known number = (text : List ℕ) → known ≡ Some text → slice_get (records_in text) number ≡ None

-- these are all records of some bytes, if they are known: none was read yet
abbrev pub AreAllOf : {R : Type 0} → (R → Option (List ℕ)) → Option (List ℕ) → Records R → Type 0
AreAllOf remaining known records = (text : List ℕ) → known ≡ Some text → Gives remaining records (records_in text)

-- ---- steps of reading

-- this record was the first of those that were left
abbrev pub GivesNext : {R : Type 0} → (R → Option (List ℕ)) → Records R → Records R → Record → Type 0
GivesNext remaining old new fields =
    (rest : List Record) → Gives remaining old rest → (more : List Record) × Gives remaining new more × (rest ≡ fields ∷ more)

-- no record was left
abbrev pub GivesNone : {R : Type 0} → (R → Option (List ℕ)) → Records R → Type 0
GivesNone remaining old = (rest : List Record) → Gives remaining old rest → rest ≡ []

-- the next record was taken, or there was none
abbrev pub Takes : {R : Type 0} → (R → Option (List ℕ)) → Records R → Records R → Bool → Record → Type 0
Takes remaining old new true fields = GivesNext remaining old new fields
Takes remaining old new false fields = GivesNone remaining old

-- these records were read of some bytes, if they are known, and the others are still given
abbrev pub HasRead : {R : Type 0} → (R → Option (List ℕ)) → Option (List ℕ) → Records R → List Record → Type 0
HasRead remaining known records read =
    (text : List ℕ) → known ≡ Some text → (rest : List Record) × Gives remaining records rest × (records_in text ≡ read ++ rest)
