-- What contracts see of the records of a table's text.
use Rattle.std.specs.Prelude.{◌+◌, ℕ, Bool, false, List, Option, Result, Ok, Err}
use Rattle.csv.specs.Reading.{default_config, error_kind, is_io, records, strip_bom}
use Rattle.csv.specs.declared.error.Error.{Error}
use Rattle.feature_table.specs.Reading.{IsSteady, StillGives, TakesFirst}
use Rattle.feature_table.specs.declared.records.Records.{Records}
use Rattle.table_model.specs.Loading.{Record, row_limit}

-- the records of a text, as csv reads them
abbrev pub records_in : List ℕ → List Record
records_in text = records default_config (strip_bom text)

-- the most records that are asked for: the header, as many as a table has rows, and one that shows that there are more
abbrev pub record_limit : ℕ
record_limit = 1 + row_limit + 1

-- how many records csv was asked for
abbrev pub asked : {R : Type 0} → Records R → ℕ
asked r = r.asked

-- whether the last that csv returned was that reading failed
abbrev pub read_failed : {R : Type 0} → Records R → Bool
read_failed r = r.read_failed

-- whether csv returned an error, and one of reading
abbrev pub is_of_its_reading : {A : Type 0} → Result A Error → Bool
is_of_its_reading (Ok x) = false
is_of_its_reading (Err e) = is_io (error_kind e)

-- a record may be asked for: none was refused yet
abbrev pub IsReady : {R : Type 0} → Records R → Type 0
IsReady r = IsSteady r.reader

-- the bytes underneath are known, and these records of them are left
abbrev pub Gives : {R : Type 0} → (R → Option (List ℕ)) → Records R → List Record → Type 0
Gives remaining r rest = StillGives remaining r.reader rest

-- the first of the records that were left was taken, or none was left
abbrev pub GivesFirst : {R : Type 0} → (R → Option (List ℕ)) → Records R → List Record → Bool → Record → Type 0
GivesFirst remaining r rest found fields = TakesFirst remaining r.reader rest found fields
