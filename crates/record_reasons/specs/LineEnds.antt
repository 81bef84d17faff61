-- Fields that hold a line end.
use Rattle.std.specs.Prelude.{◌≡◌, ◌+◌, ◌<◌, ◌≤◌, ◌||◌, ℕ, Bool, List, [], Option, None, Some, false, true, length, nat_eq, slice_get}
use Rattle.std.specs.List.{list_any, slice_index_or}
use Rattle.feature_table.specs.Records.{records_in}
use Rattle.record_reasons.specs.SeenRecords.{BeginWith}
use Rattle.record_reasons.specs.declared.line_ends.LineEnd.{LineEnd}
use Rattle.table_model.specs.Loading.{Record, row_limit}

-- whether a field holds a line feed or a carriage return, which outside quotes end a record (RFC 4180, 2.6; that either does: as csv reads)
abbrev pub has_line_end : List ℕ → Bool
has_line_end field = list_any (λ byte. nat_eq byte 10) field || list_any (λ byte. nat_eq byte 13) field

-- whether the field at a place of a record holds one
abbrev pub holds_line_end : Record → ℕ → Bool
holds_line_end fields place = has_line_end (slice_index_or fields place [])

-- no field of a record holds one
abbrev pub NoFieldHolds : Record → Type 0
NoFieldHolds fields = (k : ℕ) → k < length fields → holds_line_end fields k ≡ false

-- the field of this number, from 1, is the first of a record that holds one
pub record IsFirstField (fields : Record) (number : ℕ) : Type 0 where
  pub place : ℕ
  pub at_place : number ≡ place + 1
  pub within : place < length fields
  pub holds : holds_line_end fields place ≡ true
  pub before : (k : ℕ) → k < place → holds_line_end fields k ≡ false

-- some bytes, if they are known, begin with records of which this field is the first that holds one
pub record IsFirstLineEnd (known : Option (List ℕ)) (at_field : LineEnd) : Type 0 where
  pub read : List Record
  pub begins : BeginWith known read
  pub fields : Record
  pub there : slice_get read at_field.number ≡ Some fields
  pub first : IsFirstField fields at_field.field
  pub before : (k : ℕ) (other : Record) → k < at_field.number → slice_get read k ≡ Some other → NoFieldHolds other

-- if the bytes are known, none of their records holds one, as far as their number is within the limit of rows and one more
abbrev pub HasNoLineEnd : Option (List ℕ) → Type 0
HasNoLineEnd known = (text : List ℕ) → known ≡ Some text → (k : ℕ) (fields : Record) → k ≤ row_limit + 1
    → slice_get (records_in text) k ≡ Some fields → NoFieldHolds fields

-- the first field of some bytes that holds one, or that there is none
abbrev pub FindsLineEnd : Option (List ℕ) → Option LineEnd → Type 0
FindsLineEnd known (Some at_field) = IsFirstLineEnd known at_field
FindsLineEnd known None = HasNoLineEnd known
