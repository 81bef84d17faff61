-- The header and the record that were read last have the fault of a table.
use Rattle.std.proofs.Common.{◌≡◌, ◌≢◌, ◌==◌, ◌∙◌, ◌+◌, ◌++◌, ℕ, ℤ, Bool, true, false, cond, not, nat_lt, List, [], ◌∷◌, Option, None, Some, Result, Ok, Err, add-one, ap, drop, drop_at, get_or, inr, length, map, refl, slice_get, subst, sym}
use Rattle.std.proofs.lemmas.Option.{same_Some, slice_get-get_or}
use Rattle.std.specs.List.{enumerate_from}
use Rattle.std.specs.Prelude.{count_by, ok_or, option_map}
use Rattle.std.specs.Str.{is_utf8}
use Rattle.feature_table.proofs.LoadingLemmas.{AreRead, at_place, read_fault}
use Rattle.feature_table.specs.GeometryFields.{GeometryValue, ShapeValue, reading}
use Rattle.feature_table.specs.LastRecords.{HasFault, IsNumbered, ShowsRefused}
use Rattle.feature_table.specs.Outcomes.{IsFailure, record_in}
use Rattle.feature_table.specs.Records.{Gives}
use Rattle.feature_table.specs.declared.records.Records.{Records}
use Rattle.geometry_model.specs.CheckedTexts.{geometry_in_text}
use Rattle.geometry_model.specs.Geometries.{Geometry, type_of}
use Rattle.geometry_model.specs.declared.geometry_faults.GeometryFault.{GeometryFault}
use Rattle.table_model.specs.GeometryColumns.{of_shape, takes_type}
use Rattle.table_model.specs.Loading.{Record, and_then, by_key, checked_row, double_key, each, field_under, filled_value, first_fault, header_fault, integer_of, is_required, key_of, keyed_rows, name_fault, row_of, rows_of, unless, value_of}
use Rattle.table_model.specs.Meanings.{Row}
use Rattle.table_model.specs.Texts.{same_name}
use Rattle.table_model.specs.declared.definitions.ColumnDef.{ColumnDef}
use Rattle.table_model.specs.declared.definitions.ColumnType.{ColumnType}
use Rattle.table_model.specs.declared.definitions.ColumnType.TheVariants as column
use Rattle.table_model.specs.declared.definitions.TableDef.{TableDef}
use Rattle.table_model.specs.declared.faults.LoadFault.{LoadFault}
use Rattle.table_model.specs.declared.faults.LoadFault.TheVariants as fault
use Rattle.table_model.specs.declared.values.Value.{Value}
use Rattle.table_model.specs.declared.values.Value.TheVariants as value

-- a fault that a record shows has this number
abbrev pub HasNumber : ℕ → LoadFault → Type 0
HasNumber number f = (n : ℕ) → record_in f ≡ Some n → n ≡ number

same_fault : {X : Type 0} (number : ℕ) (f g : LoadFault) → HasNumber number f → ◌≡◌ {A = Result X LoadFault} (Err f) (Err g)
    → HasNumber number g
same_fault number f g has is = let same : f ≡ g = cc is in subst (HasNumber number) same has

-- a fault that is made with this number
own_number : (number : ℕ) (f : LoadFault) → record_in f ≡ Some number → HasNumber number f
own_number number f is n other = same_Some n number (sym other ∙ is)

-- ---- the fault of a value

integer_fault : (number : ℕ) (found : Option ℤ) (f : LoadFault)
    → ◌≡◌ {A = Result (Value GeometryValue) LoadFault} (ok_or (option_map value.Integer found) (fault.BadInteger number)) (Err f)
    → HasNumber number f
integer_fault number None f is = same_fault number (fault.BadInteger number) f
    (own_number number (fault.BadInteger number) refl) is
integer_fault number (Some n) f is = cc is

text_fault : (number : ℕ) (text : List ℕ) (good : Bool) (f : LoadFault)
    → ◌≡◌ {A = Result (Value GeometryValue) LoadFault} (cond good (Ok (value.Text text)) (Err (fault.NotUtf8 number))) (Err f)
    → HasNumber number f
text_fault number text true f is = cc is
text_fault number text false f is = same_fault number (fault.NotUtf8 number) f (own_number number (fault.NotUtf8 number) refl) is

type_fault : (number : ℕ) (g : Geometry) (taken : Bool) (f : LoadFault)
    → ◌≡◌ {A = Result (Value GeometryValue) LoadFault}
    (and_then (cond taken (Ok g) (Err (fault.WrongType number))) (λ (h : Geometry). Ok (value.Geometry h))) (Err f)
    → HasNumber number f
type_fault number g true f is = cc is
type_fault number g false f is = same_fault number (fault.WrongType number) f (own_number number (fault.WrongType number) refl) is

geometry_fault : (number : ℕ) (shape : ShapeValue) (read : Result Geometry GeometryFault) (f : LoadFault)
    → ◌≡◌ {A = Result (Value GeometryValue) LoadFault}
    (and_then (of_shape number shape read) (λ (g : Geometry). Ok (value.Geometry g))) (Err f)
    → HasNumber number f
geometry_fault number shape (Err why) f is = same_fault number (fault.BadGeometry number why) f
    (own_number number (fault.BadGeometry number why) refl) is
geometry_fault number shape (Ok g) f is = type_fault number g (takes_type shape (type_of g)) f is

filled_fault : (number : ℕ) (kind : ColumnType ShapeValue) (bytes : List ℕ) (f : LoadFault)
    → filled_value reading number kind bytes ≡ Err f → HasNumber number f
filled_fault number column.Integer bytes f is = integer_fault number (integer_of bytes) f is
filled_fault number column.Text bytes f is = text_fault number bytes (is_utf8 bytes) f is
filled_fault number (column.Geometry shape) bytes f is = geometry_fault number shape (geometry_in_text bytes) f is

value_fault : (number : ℕ) (required : Bool) (kind : ColumnType ShapeValue) (bytes : List ℕ) (f : LoadFault)
    → value_of reading number required kind bytes ≡ Err f
    → HasNumber number f
unfolding value_of
value_fault number true kind [] f is = same_fault number (fault.NullNotAllowed number) f
    (own_number number (fault.NullNotAllowed number) refl) is
value_fault number false kind [] f is = cc is
value_fault number required kind (byte ∷ bytes) f is = filled_fault number kind (byte ∷ bytes) f is

-- ---- the fault of a record

-- the first fault of several answers is that of one of them
later_fault : {B F : Type 0} (f : F) (y : B) (rest : Result (List B) F) (X : Type 0) → (rest ≡ Err f → X)
    → and_then rest (λ (ys : List B). Ok (y ∷ ys)) ≡ Err f → X
later_fault f y (Err h) X more is = let same : h ≡ f = cc is in more (ap Err same)
later_fault f y (Ok ys) X more is = cc is

one_fault : {B F : Type 0} (f : F) (first : Result B F) (rest : Result (List B) F) (X : Type 0) → (first ≡ Err f → X)
    → (rest ≡ Err f → X)
    → and_then first (λ (y : B). and_then rest (λ (ys : List B). Ok (y ∷ ys))) ≡ Err f → X
one_fault f (Err h) rest X here more is = let same : h ≡ f = cc is in here (ap Err same)
one_fault f (Ok y) rest X here more is = later_fault f y rest X more is

each_fault : {A B F : Type 0} (value : A → Result B F) (xs : List A) (f : F) → each (map value xs) ≡ Err f
    → (x : A) × (value x ≡ Err f)
each_fault value [] f is = cc is
each_fault {A = A} value (x ∷ xs) f is = one_fault f (value x) (each (map value xs)) ((y : A) × (value y ≡ Err f))
    (λ here. (x, here)) (each_fault value xs f) is

row_fault_number : (table : TableDef ShapeValue) (header : Record) (number : ℕ) (fields : Record) (f : LoadFault)
    → row_of reading table header number fields ≡ Err f
    → HasNumber number f
unfolding row_of
row_fault_number table header number fields f is =
    let value = λ (c : ℕ × ColumnDef ShapeValue).
    value_of reading number (is_required table c) c.1.column_type (field_under header fields c.1.name) in
    let one = each_fault value (enumerate_from 0 table.columns) f is in
    value_fault number (is_required table one.0) one.0.1.column_type (field_under header fields one.0.1.name) f one.1

-- a fault of a record has the number of the record
pub checked_number : (table : TableDef ShapeValue) (header : Record) (number : ℕ) (fields : Record) (f : LoadFault)
    → checked_row reading table header (number, fields) ≡ Err f → HasNumber number f
unfolding checked_row
checked_number table header number fields f is = go (length fields == length header) (nat_lt 100000 number) is
  where
    go : (fits late : Bool) → ◌≡◌ {A = Result (Row GeometryValue) LoadFault}
        (cond (not fits) (Err (fault.UnequalRecord number)) (cond late (Err fault.TooManyRows)
        (row_of reading table header number fields))) (Err f)
        → HasNumber number f
    go false late e = same_fault number (fault.UnequalRecord number) f (own_number number (fault.UnequalRecord number) refl) e
    go true true e = same_fault number fault.TooManyRows f (λ n none. cc none) e
    go true false e = row_fault_number table header number fields f e

-- ---- what was read last

-- a fault of this number is shown by the record that is there
numbered : (all : List Record) (last : Record) (number : ℕ) (shown : Option ℕ) → ((n : ℕ) → shown ≡ Some n → n ≡ number)
    → slice_get all number ≡ Some last
    → IsNumbered all last shown
numbered all last number None has there = tt
numbered all last number (Some n) has there = subst (λ (k : ℕ). slice_get all k ≡ Some last) (sym (has n refl)) there

not_numbered : (all : List Record) (last : Record) (shown : Option ℕ) → shown ≡ None → IsNumbered all last shown
not_numbered all last None none = tt
not_numbered all last (Some n) none = cc none

-- of a failure nothing has to be read
pub shows_failure : (all : List Record) (header last : Record) (f : LoadFault) → IsFailure f → ShowsRefused all header last f
shows_failure all header last f failed other = absurd (other failed)

-- the record behind so many has this fault, and is the last that was read
shows_here : (table : TableDef ShapeValue) (header : Record) (records : List Record) (place : ℕ) (last : Record)
    (more : List Record) (f : LoadFault)
    → drop place records ≡ last ∷ more → checked_row reading table header (place + 1, last) ≡ Err f
    → (header ≡ get_or (header ∷ records) 0 []) × IsNumbered (header ∷ records) last (record_in f)
shows_here table header records place last more f takes is =
    let at = at_place records place last more takes in
    let there : slice_get records place ≡ Some last = slice_get-get_or records place last at.0 ∙ ap Some at.1 in
    let here : slice_get (header ∷ records) (place + 1) ≡ Some last = ap (slice_get (header ∷ records)) (add-one place) ∙ there in
    (refl, numbered (header ∷ records) last (place + 1) (record_in f) (checked_number table header (place + 1) last f is) here)

-- the next record that a reader gives has a fault, and is the last that was read
pub shows_given : {R : Type 0} (remaining : R → Option (List ℕ)) (old : Records R) (table : TableDef ShapeValue)
    (header : Record) (records : List Record) (place : ℕ)
    (last : Record) (f : LoadFault) → Gives remaining old (drop place records) → HasFault remaining old reading table header
    (place + 1) last f
    → ShowsRefused (header ∷ records) header last f
shows_given remaining old table header records place last f gives has other =
    let h = has other in
    let next = h.1 (drop place records) gives in
    shows_here table header records place last next.0 f next.1 h.0

-- so many records were read, and then one with a fault
pub shows_read : {R : Type 0} (remaining : R → Option (List ℕ)) (old : Records R) (table : TableDef ShapeValue)
    (header : Record) (place : ℕ) (rows : List (Row GeometryValue))
    (last : Record) (f : LoadFault) → AreRead reading table header place rows → HasFault remaining old reading table header
    (place + 1) last f
    → (records : List Record) × (¬ (IsFailure f) → rows_of reading table header records ≡ Err f) × ShowsRefused
    (header ∷ records) header last f
shows_read remaining old table header place rows last f a has =
    let records = a.records ++ last ∷ [] in (
      records,
      λ other. read_fault reading table header place rows last f a (has other).0,
      λ other. shows_here table header records place last [] f (drop_at a.records (last ∷ []) place a.count) (has other).0,
    )

-- ---- faults of headers and of keys

-- no record shows a fault of the header
header_number : {T : Type 0} (columns : List (ColumnDef T)) (header : Record) (f : LoadFault)
    → header_fault columns header ≡ Some f → record_in f ≡ None
unfolding header_fault
header_number [] header f is = cc is
header_number (c ∷ columns) header f is =
    go (count_by (same_name c.name) header == 0) (count_by (same_name c.name) header == 1) (header_number columns header f) is
  where
    go : (none one : Bool) → (first_fault (map (λ d. name_fault header d.name) columns) ≡ Some f → record_in f ≡ None)
        → first_fault (cond none (Some fault.MissingColumn) (cond one None (Some fault.DoubleHeader)) ∷ map (λ d. name_fault
        header d.name) columns) ≡ Some f
        → record_in f ≡ None
    go true one more e = let same : fault.MissingColumn ≡ f = cc e in ap record_in (sym same)
    go false true more e = more e
    go false false more e = let same : fault.DoubleHeader ≡ f = cc e in ap record_in (sym same)

-- the header that was read last has its fault
pub shows_header : {T : Type 0} (columns : List (ColumnDef T)) (header : Record) (records : List Record) (last : Record)
    (f : LoadFault)
    → (f ≢ fault.OutOfMemory → header_fault columns header ≡ Some f) → ShowsRefused (header ∷ records) header last f
shows_header columns header records last f has other =
    (refl, not_numbered (header ∷ records) last (record_in f) (header_number columns header f (has (λ e. other (inr e)))))

-- a fault of the rows together is of a key
pub shows_key : {G : Type 0} (header : Record) (records : List Record) (last : Record) (key : ℕ) (rows : List (Row G))
    (f : LoadFault)
    → (f ≢ fault.OutOfMemory → keyed_rows key rows ≡ Err f) → ShowsRefused (header ∷ records) header last f
shows_key {G = G} header records last key rows f has other = (
  refl,
  not_numbered (header ∷ records) last (record_in f) (go (double_key (map (key_of key) rows))
      (has (λ e. other (inr e)))),
)
  where
    go : (found : Option ℕ)
        → ◌≡◌ {A = Result (List (Row G)) LoadFault} (unless (option_map fault.DoubleKey found) (Ok (by_key key rows))) (Err f)
        → record_in f ≡ None
    go None is = cc is
    go (Some n) is = let same : fault.DoubleKey n ≡ f = cc is in ap record_in (sym same)
