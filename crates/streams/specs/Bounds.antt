-- When a CSV text has passed its bound. (RFC 4180, 2.4 to 2.7. A line ends in a carriage return or a line feed, and a line feed right
-- after a carriage return counts as a blank line, which is no record.)
use Rattle.std.specs.Prelude.{ℕ, nat_le, nat_lt, Bool, true, false, ◌==◌, ◌||◌, if◌then◌else◌}
use Rattle.basics.specs.Counts.{one_more}
use Rattle.streams.specs.declared.tallies.Place.{Place}
use Rattle.streams.specs.declared.tallies.Place.TheVariants as at
use Rattle.streams.specs.declared.tallies.Tally.{Tally}

-- the greatest length of a field, in bytes, with its quotes
abbrev pub field_limit : ℕ
field_limit = 1048576

-- how many fields a record has at most
abbrev pub fields_limit : ℕ
fields_limit = 100000

-- the greatest length of a record, in bytes, with blank lines before it
abbrev pub record_limit : ℕ
record_limit = 34603008

-- ---- places

-- whether a byte is a quote
abbrev pub is_quote : ℕ → Bool
is_quote byte = byte == 34

-- whether a byte outside quotes ends a line
abbrev pub ends_line : ℕ → Bool
ends_line byte = (byte == 10) || (byte == 13)

-- the place after a byte outside quotes: a comma ends the field, and the end of a line the record
abbrev pub place_outside : ℕ → Place
place_outside byte = if byte == 44 then at.FieldStart else if ends_line byte then at.RecordStart else at.Unquoted

-- the place after a byte at the start of a field, where a quote begins quotes
abbrev pub place_from_start : ℕ → Place
place_from_start byte = if byte == 34 then at.Quoted else place_outside byte

-- the place after a byte; a byte order mark before the text isn't part of it
abbrev pub place_after : Place → ℕ → Place
place_after at.Start byte = if byte == 0xEF then at.FirstMark else place_from_start byte
place_after at.FirstMark byte = if byte == 0xBB then at.SecondMark else place_outside byte
place_after at.SecondMark byte = if byte == 0xBF then at.RecordStart else place_outside byte
place_after at.RecordStart byte = place_from_start byte
place_after at.FieldStart byte = place_from_start byte
place_after at.Unquoted byte = place_outside byte
place_after at.Quoted byte = if byte == 34 then at.QuoteInQuotes else at.Quoted
place_after at.QuoteInQuotes byte = place_from_start byte

-- whether a place is outside quotes, after the byte order mark
abbrev pub is_outside : Place → Bool
is_outside at.RecordStart = true
is_outside at.FieldStart = true
is_outside at.Unquoted = true
is_outside _ = false

-- whether the end of a line ends a record there; else the line is blank
abbrev pub is_in_record : Place → Bool
is_in_record at.Start = false
is_in_record at.RecordStart = false
is_in_record _ = true

-- ---- lengths

-- the lengths before the first byte
abbrev pub first_tally : Tally
first_tally = record { place = at.Start; field_bytes = 0; ended_fields = 0; record_bytes = 0; is_past = false }

-- the lengths where a record begins, with no blank line before it
abbrev pub new_record : Tally
new_record = record { place = at.RecordStart; field_bytes = 0; ended_fields = 0; record_bytes = 0; is_past = false }

-- the lengths where a record or a blank line begins: the record counts only the blank lines before it
abbrev pub at_record : Tally → Tally
at_record t = record t {
  place = at.RecordStart;
  field_bytes = 0;
  ended_fields = 0;
  record_bytes = if is_in_record t.place then 0 else one_more t.record_bytes;
}

-- the lengths after a comma that ends a field
abbrev pub at_field : Tally → Tally
at_field t = record t {
  place = at.FieldStart;
  field_bytes = 0;
  ended_fields = one_more t.ended_fields;
  record_bytes = one_more t.record_bytes;
}

-- the lengths after a byte of a field
abbrev pub in_field : Tally → Place → Tally
in_field t place = record t { place = place; field_bytes = one_more t.field_bytes; record_bytes = one_more t.record_bytes }

-- the lengths after a byte that leads to a place
abbrev pub moved : Tally → Place → Tally
moved t at.RecordStart = at_record t
moved t at.FieldStart = at_field t
moved t place = in_field t place

-- whether a field or a record was longer than its limit
abbrev pub is_past : Tally → Bool
is_past t = t.is_past

-- whether a length is past its limit now
abbrev pub exceeds : Tally → Bool
exceeds t = nat_lt field_limit t.field_bytes || nat_le fields_limit t.ended_fields || nat_lt record_limit t.record_bytes

-- once past the bound, a text stays so
abbrev pub checked : Tally → Tally
checked t = record t { is_past = t.is_past || exceeds t }

-- the tally after a byte
abbrev pub tally_after : Tally → ℕ → Tally
tally_after t byte = checked (moved t (place_after t.place byte))
