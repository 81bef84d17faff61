-- The records that a reader of CSV still gives.
use Rattle.std.specs.Prelude.{◌≡◌, ◌+◌, ℕ, Bool, true, false, List, [], ◌∷◌, Option, Some, length}
use Rattle.csv.specs.Machine.{ends_at_end}
use Rattle.csv.specs.Reading.{Ready, default_config, is_flexible, reader_config, reader_state, reader_trim, records_from, source_of}
use Rattle.csv.specs.declared.parser.State.{State}
use Rattle.csv.specs.declared.reader.Reader.{Reader}
use Rattle.csv.specs.declared.reader.Trim.TheVariants as trim
use Rattle.table_model.specs.Loading.{Record}

-- the records of some bytes, read from a state
unfoldable pub records_left : State → List ℕ → List Record
records_left state bytes = records_from default_config (length bytes + 1) state bytes

-- a reader that gives each record as it is, of whatever length
pub record IsSteady {R : Type 0} (reader : Reader R) : Type 0 where
  pub trim : reader_trim reader ≡ trim.None
  pub ready : Ready reader
  pub flexible : is_flexible reader ≡ true
  pub config : reader_config reader ≡ default_config

-- the bytes of a reader are known, it is between two records of them, and it still gives these
pub record StillGives {R : Type 0} (remaining : R → Option (List ℕ)) (reader : Reader R) (rest : List Record) : Type 0 where
  pub bytes : List ℕ
  pub source : source_of remaining reader ≡ Some bytes
  pub between : ends_at_end (reader_state reader) ≡ false
  pub records : records_left (reader_state reader) bytes ≡ rest

-- a read took the first of the records that were left, or none was left
abbrev pub TakesFirst : {R : Type 0} → (R → Option (List ℕ)) → Reader R → List Record → Bool → Record → Type 0
TakesFirst remaining reader rest true fields = (more : List Record) × StillGives remaining reader more × (rest ≡ fields ∷ more)
TakesFirst remaining reader rest false fields = rest ≡ []
