-- Loading: the typed rows that records of fields give, or the first fault. A record is a list of fields, a
-- field a list of bytes. What reads a geometry is a parameter: from a record's number, the column's type of
-- geometry and the field's bytes it gives the geometry or the fault.
use Rattle.std.specs.Prelude.{◌+◌, ◌-◌, ◌^◌, ◌==◌, ◌&&◌, ◌||◌, if◌then◌else◌, ℕ, ℤ, pos, negsuc, Bool, not, List, [], ◌∷◌, Option, Some, None, Result, Ok, Err, drop, int_lt, count_by, length, map, nat_lt, ok_or, option_map, position, reverse, slice_get, take, unwrap_or}
use Rattle.std.specs.List.{enumerate_from, list_any, prefix_len, slice_index_or}
use Rattle.std.specs.Ordering.{int_eq}
use Rattle.std.specs.Str.{all_ascii_digits, is_utf8}
use Rattle.std.specs.Str.Parse.{signed_digits_value, without_leading_sign}
use Rattle.table_model.specs.Meanings.{Row}
use Rattle.table_model.specs.Texts.{same_name}
use Rattle.table_model.specs.declared.definitions.ColumnType.{ColumnType}
use Rattle.table_model.specs.declared.definitions.ColumnType.TheVariants as column
use Rattle.table_model.specs.declared.definitions.ColumnDef.{ColumnDef}
use Rattle.table_model.specs.declared.definitions.TableDef.{TableDef}
use Rattle.table_model.specs.declared.faults.LoadFault.{LoadFault}
use Rattle.table_model.specs.declared.faults.LoadFault.TheVariants as fault
use Rattle.table_model.specs.declared.values.Value.{Value}
use Rattle.table_model.specs.declared.values.Value.TheVariants as value

-- a record: its fields, each some bytes (as csv reads them)
abbrev pub Record : Type 0
Record = List (List ℕ)

-- what reads a geometry: from a record's number, a type of geometry and a field's bytes it gives the geometry or the fault
abbrev pub GeometryReader : Type 0 → Type 0 → Type 0
GeometryReader T G = ℕ → T → List ℕ → Result G LoadFault

-- the next step with the value of the first; or the fault of the first
abbrev pub and_then : {A B F : Type 0} → Result A F → (A → Result B F) → Result B F
and_then (Ok x) next = next x
and_then (Err f) next = Err f

-- the fault if there is one, else the answer
abbrev pub unless : {A F : Type 0} → Option F → Result A F → Result A F
unless None answer = answer
unless (Some f) answer = Err f

-- all values, or the first fault
abbrev pub each : {A F : Type 0} → List (Result A F) → Result (List A) F
each [] = Ok []
each (answer ∷ answers) = and_then answer (λ x. and_then (each answers) (λ xs. Ok (x ∷ xs)))

-- the bytes that are passed over around a number: spaces and tabs
abbrev pub is_space_or_tab : ℕ → Bool
is_space_or_tab byte = (byte == 32) || (byte == 9)

-- a field without the blanks at its front and at its end
abbrev pub trimmed : List ℕ → List ℕ
trimmed bytes = let rest = drop (prefix_len is_space_or_tab bytes) bytes in take (length rest - prefix_len is_space_or_tab (reverse rest)) rest

-- whether a number has 64 bits with its sign (SQL, INTEGER; 64 bits are this project's choice)
abbrev pub fits_64_bits : ℤ → Bool
fits_64_bits (pos n) = nat_lt n (2 ^ 63)
fits_64_bits (negsuc n) = nat_lt n (2 ^ 63)

-- whether a text is a whole number of 64 bits: a sign or none, and one or more digits
abbrev pub is_number : List ℕ → Bool
is_number text =
    let digits = without_leading_sign text in nat_lt 0 (length digits) && (all_ascii_digits digits && fits_64_bits (signed_digits_value 10 text))

-- the whole number that a text is
abbrev pub number_in : List ℕ → Option ℤ
number_in text = if is_number text then Some (signed_digits_value 10 text) else None

-- the whole number that a field writes, perhaps with blanks around it
unfoldable pub integer_of : List ℕ → Option ℤ
integer_of bytes = number_in (trimmed bytes)

-- the value of a field that isn't empty
abbrev pub filled_value : {T G : Type 0} → GeometryReader T G → ℕ → ColumnType T → List ℕ → Result (Value G) LoadFault
filled_value geometry number column.Integer bytes = ok_or (option_map value.Integer (integer_of bytes)) (fault.BadInteger number)
filled_value geometry number column.Text bytes = if is_utf8 bytes then Ok (value.Text bytes) else Err (fault.NotUtf8 number)
filled_value geometry number (column.Geometry kind) bytes = and_then (geometry number kind bytes) (λ g. Ok (value.Geometry g))

-- the value of a field: an empty field is null in every type
unfoldable pub value_of : {T G : Type 0} → GeometryReader T G → ℕ → Bool → ColumnType T → List ℕ → Result (Value G) LoadFault
value_of geometry number required kind [] = if required then Err (fault.NullNotAllowed number) else Ok value.Null
value_of geometry number required kind (byte ∷ bytes) = filled_value geometry number kind (byte ∷ bytes)

-- whether the column at this place takes no null: NOT NULL is written, or it is the key (SQL)
abbrev pub is_required : {T : Type 0} → TableDef T → ℕ × ColumnDef T → Bool
is_required table (place, c) = c.not_null || (place == table.key)

-- the place of the first field of a header that has this name
abbrev pub place_in : Record → List ℕ → ℕ
place_in header name = unwrap_or (position (same_name name) header) 0

-- the field of a record that a header calls by this name
abbrev pub field_under : Record → Record → List ℕ → List ℕ
field_under header fields name = slice_index_or fields (place_in header name) []

-- for each column the value of its field in a record, or the fault
abbrev pub values_of : {T G : Type 0} → GeometryReader T G → TableDef T → Record → ℕ → Record → List (Result (Value G) LoadFault)
values_of geometry table header number fields =
    map (λ c. value_of geometry number (is_required table c) c.1.column_type (field_under header fields c.1.name)) (enumerate_from 0 table.columns)

-- the typed row of a record: its fields under the names of the columns, in the order of the columns
unfoldable pub row_of : {T G : Type 0} → GeometryReader T G → TableDef T → Record → ℕ → Record → Result (Row G) LoadFault
row_of geometry table header number fields = each (values_of geometry table header number fields)

-- the most rows of a table: 100,000 (this project's choice)
abbrev pub row_limit : ℕ
row_limit = 100000

-- the typed row of the record of this number; the number of its fields is tested first, then that of rows, then the fields
unfoldable pub checked_row : {T G : Type 0} → GeometryReader T G → TableDef T → Record → ℕ × Record → Result (Row G) LoadFault
checked_row geometry table header (number, fields) =
    if not (length fields == length header) then Err (fault.UnequalRecord number)
    else if nat_lt row_limit number then Err fault.TooManyRows
    else row_of geometry table header number fields

-- the typed row of each record after the header, or its fault; the records are numbered from 1
abbrev pub checked_rows : {T G : Type 0} → GeometryReader T G → TableDef T → Record → List Record → List (Result (Row G) LoadFault)
checked_rows geometry table header records = map (checked_row geometry table header) (enumerate_from 1 records)

-- the typed rows of the records after the header, or the first fault
unfoldable pub rows_of : {T G : Type 0} → GeometryReader T G → TableDef T → Record → List Record → Result (List (Row G)) LoadFault
rows_of geometry table header records = each (checked_rows geometry table header records)

-- the fault of a name in a header: no field has it, or more than one
abbrev pub name_fault : Record → List ℕ → Option LoadFault
name_fault header name =
    let found = count_by (same_name name) header in
    if found == 0 then Some fault.MissingColumn else if found == 1 then None else Some fault.DoubleHeader

-- the first of the faults
abbrev pub first_fault : {F : Type 0} → List (Option F) → Option F
first_fault [] = None
first_fault (Some f ∷ more) = Some f
first_fault (None ∷ more) = first_fault more

-- the first fault of the columns' names in a header
unfoldable pub header_fault : {T : Type 0} → List (ColumnDef T) → Record → Option LoadFault
header_fault columns header = first_fault (map (λ c. name_fault header c.name) columns)

-- the key of a row, the number at the key's place (06-104r4, feature tables)
abbrev pub whole_number : {G : Type 0} → Option (Value G) → ℤ
whole_number None = pos 0
whole_number (Some (value.Integer n)) = n
whole_number (Some value.Null) = pos 0
whole_number (Some (value.Text bytes)) = pos 0
whole_number (Some (value.Geometry g)) = pos 0

-- the key of a row: the whole number at the key's place (06-104r4, feature tables)
abbrev pub key_of : {G : Type 0} → ℕ → Row G → ℤ
key_of key row = whole_number (slice_get row key)

-- the number of the first of these keys that equals an earlier one; the first of these has the number that is given
abbrev pub double_from : List ℤ → ℕ → List ℤ → Option ℕ
double_from earlier number [] = None
double_from earlier number (key ∷ keys) =
    if list_any (int_eq key) earlier then Some number else double_from (key ∷ earlier) (number + 1) keys

-- the number, from 1, of the first record whose key an earlier one has, as the laws `double_is_first` and
-- `none_is_double` of `table_laws` say
unfoldable pub double_key : List ℤ → Option ℕ
double_key keys = double_from [] 1 keys

-- the rows with one more, which comes before the first row of a greater key
abbrev pub insert_by_key : {G : Type 0} → ℕ → Row G → List (Row G) → List (Row G)
insert_by_key key row [] = row ∷ []
insert_by_key key row (other ∷ rows) =
    if int_lt (key_of key row) (key_of key other) then row ∷ other ∷ rows else other ∷ insert_by_key key row rows

-- the rows by ascending key, which the laws `rows_ascend` and `rows_are_permuted` of `table_laws` say as facts
unfoldable pub by_key : {G : Type 0} → ℕ → List (Row G) → List (Row G)
by_key key [] = []
by_key key (row ∷ rows) = insert_by_key key row (by_key key rows)

-- the rows by ascending key, or the fault of two equal keys
abbrev pub keyed_rows : {G : Type 0} → ℕ → List (Row G) → Result (List (Row G)) LoadFault
keyed_rows key rows = unless (option_map fault.DoubleKey (double_key (map (key_of key) rows))) (Ok (by_key key rows))

-- the table that records give, or the first fault: of the columns in the header, then of the records in order, then of
-- keys. Without records the header has no fields.
unfoldable pub load : {T G : Type 0} → GeometryReader T G → TableDef T → List Record → Result (List (Row G)) LoadFault
load geometry table records =
    let header = unwrap_or (slice_get records 0) [] in
    unless (header_fault table.columns header) (and_then (rows_of geometry table header (drop 1 records)) (keyed_rows table.key))
