-- Where the records and the fields of a CSV text begin, by the steps in which `csv` reads it (RFC 4180, 2.1 to 2.7).
use Rattle.std.specs.Prelude.{◌≡◌, ◌⊎◌, ◌+◌, ◌≤◌, ◌<◌, ◌&&◌, ◌||◌, ◌==◌, not, ℕ, Bool, true, false, List, drop, fold, if◌then◌else◌, length, nat_le, slice_index, take}
use Rattle.csv.specs.Machine.{step}
use Rattle.csv.specs.Reading.{default_config}
use Rattle.csv.specs.declared.parser.Action.{Action}
use Rattle.csv.specs.declared.parser.Action.TheVariants as act
use Rattle.csv.specs.declared.parser.State.{State}
use Rattle.csv.specs.declared.parser.State.TheVariants as st
use Rattle.explanations.specs.declared.field_places.Cursor.{Cursor}
use Rattle.explanations.specs.declared.field_places.Reading.{Reading}
use Rattle.explanations.specs.declared.field_places.Reading.TheVariants as readings
use Rattle.explanations.specs.declared.field_places.Spot.{Spot}

-- the greatest number of 64 bits
abbrev pub most : ℕ
most = 18446744073709551615

-- the state of the machine of `csv`
abbrev pub state_of : Reading → State
state_of readings.RecordStart = st.StartRecord
state_of readings.AfterReturn = st.AfterCr
state_of readings.FieldStart = st.StartField
state_of readings.Plain = st.InField
state_of readings.Quoted = st.InQuoted
state_of readings.QuoteEnd = st.AfterQuote

-- a state, the number of records that have ended, and that of the fields of the record at hand that have
abbrev pub Counted : Type 0
Counted = State × ℕ × ℕ

abbrev pub cursor : Cursor → Counted
cursor c = (state_of c.reading, c.records, c.fields)

-- before the first byte
abbrev pub first_cursor : Counted
first_cursor = (st.StartRecord, 0, 0)

-- what is counted after an action that leads to a state
abbrev pub counted : Action → State → ℕ → ℕ → Counted
counted act.EndRecord s records fields = (s, records + 1, 0)
counted act.EndField s records fields = (s, records, fields + 1)
counted act.Skip s records fields = (s, records, fields)
counted act.Copy s records fields = (s, records, fields)

abbrev pub after_step : State × Action → Counted → Counted
after_step p c = counted p.1 p.0 c.1 c.2

-- after one byte more
abbrev pub moved : Counted → ℕ → Counted
moved c byte = after_step (step default_config c.0 byte) c

-- after a text
abbrev pub read : List ℕ → Counted
read text = fold moved first_cursor text

-- a place of a text, with what was read before it
pub record IsSpot (text : List ℕ) (spot : Spot) : Type 0 where
  pub within : spot.place ≤ length text
  pub is : cursor spot.cursor ≡ read (take spot.place text)
  pub few : (spot.cursor.records ≤ spot.place) × (spot.cursor.fields ≤ spot.place)

-- whether a byte outside quotes ends a line
abbrev pub ends_line : ℕ → Bool
ends_line byte = byte == 13 || byte == 10

-- whether a byte outside quotes ends a field
abbrev pub ends_field : ℕ → Bool
ends_field byte = byte == 44 || ends_line byte

-- whether a byte begins a field in a state: after a comma any does, and where a record may begin one that ends no line
abbrev pub begins_field : State → ℕ → Bool
begins_field st.StartField byte = true
begins_field st.StartRecord byte = not (ends_line byte)
begins_field st.AfterCr byte = not (ends_line byte)
begins_field st.InField byte = false
begins_field st.InQuoted byte = false
begins_field st.AfterQuote byte = false
begins_field st.InEscape byte = false
begins_field st.InComment byte = false

-- whether a byte ends a record in a state
abbrev pub ends_record : State → ℕ → Bool
ends_record st.StartField byte = ends_line byte
ends_record st.InField byte = ends_line byte
ends_record st.AfterQuote byte = ends_line byte
ends_record st.StartRecord byte = false
ends_record st.AfterCr byte = false
ends_record st.InQuoted byte = false
ends_record st.InEscape byte = false
ends_record st.InComment byte = false

-- whether a field begins in a state, even if no byte is behind
abbrev pub is_field_start : State → Bool
is_field_start st.StartField = true
is_field_start st.StartRecord = false
is_field_start st.AfterCr = false
is_field_start st.InField = false
is_field_start st.InQuoted = false
is_field_start st.AfterQuote = false
is_field_start st.InEscape = false
is_field_start st.InComment = false

-- a field of a record begins at this place: as many records have ended before it, and as many fields of its own record. An empty field
-- at the text's end begins there
pub record IsFieldPlace (text : List ℕ) (number field place : ℕ) : Type 0 where
  pub records : (read (take place text)).1 ≡ number
  pub fields : (read (take place text)).2 ≡ field
  pub begins : ((place < length text) × (begins_field (read (take place text)).0 (slice_index text place) ≡ true))
      ⊎ ((place ≡ length text) × (is_field_start (read (take place text)).0 ≡ true))

-- a record ends at this place: as many have ended before it, and it is that of the byte that ends this one, or the text's end
pub record IsRecordEnd (text : List ℕ) (number place : ℕ) : Type 0 where
  pub records : (read (take place text)).1 ≡ number
  pub ends : ((place < length text) × (ends_record (read (take place text)).0 (slice_index text place) ≡ true)) ⊎ (place ≡ length text)

-- whether a text begins with a byte order mark, U+FEFF in UTF-8
abbrev pub has_mark : List ℕ → Bool
has_mark text = nat_le 3 (length text) && (slice_index text 0 == 239) && (slice_index text 1 == 187) && (slice_index text 2 == 191)

-- a text without its byte order mark
abbrev pub without_mark : List ℕ → List ℕ
without_mark text = if has_mark text then drop 3 text else text
