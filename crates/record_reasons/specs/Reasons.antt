-- What is wrong where a table isn't loaded.
use Rattle.std.specs.Prelude.{◌≡◌, ◌≢◌, ◌+◌, ◌<◌, ◌≤◌, ℕ, ℤ, Bool, List, [], Option, None, Some, Err, false, true, count_by, length, slice_get}
use Rattle.std.specs.Str.{IsUtf8}
use Rattle.witnesses.specs.FaultPlaces.{IsPlaceOf}
use Rattle.witnesses.specs.declared.places.Place.{Place}
use Rattle.geometry_model.specs.Geometries.{Geometry, type_of}
use Rattle.geometry_model.specs.TextReading.{read_text}
use Rattle.geometry_model.specs.Validity.{HasFault}
use Rattle.geometry_model.specs.WellKnownText.{Spells}
use Rattle.geometry_model.specs.declared.geometry_faults.GeometryFault.TheVariants as g
use Rattle.geometry_model.specs.declared.shapes.GeometryType.{GeometryType}
use Rattle.geometry_model.specs.declared.text_faults.TextFault.{TextFault}
use Rattle.geometry_model.specs.declared.validity_faults.ValidityFault.{ValidityFault}
use Rattle.record_reasons.specs.SeenRecords.{BeginWith}
use Rattle.record_reasons.specs.ShownTexts.{shown_text}
use Rattle.record_reasons.specs.declared.reason.Reason.{Reason}
use Rattle.record_reasons.specs.declared.reason.Reason.TheVariants as reasons
use Rattle.table_model.specs.GeometryColumns.{ColumnShape, takes_type}
use Rattle.table_model.specs.Loading.{Record, field_under, integer_of, is_required, row_limit}
use Rattle.table_model.specs.Texts.{same_name}
use Rattle.table_model.specs.declared.definitions.ColumnDef.{ColumnDef}
use Rattle.table_model.specs.declared.definitions.ColumnType.{ColumnType}
use Rattle.table_model.specs.declared.definitions.ColumnType.TheVariants as column
use Rattle.table_model.specs.declared.definitions.TableDef.{TableDef}
use Rattle.table_model.specs.declared.faults.LoadFault.{LoadFault}
use Rattle.table_model.specs.declared.faults.LoadFault.TheVariants as fault

-- a reason was found that is one, or there is none
abbrev pub Finds : (Reason → Type 0) → Option Reason → Type 0
Finds Is (Some reason) = Is reason
Finds Is None = (reason : Reason) → Is reason → ⊥

-- the reason is of one of the table's columns, and no column before it has one
abbrev pub IsFirst : (ℕ → ColumnDef ColumnShape → Reason → Type 0) → TableDef ColumnShape → Reason → Type 0
IsFirst Is table reason =
    (place : ℕ) × (c : ColumnDef ColumnShape) × (slice_get table.columns place ≡ Some c) × Is place c reason
    × ((k : ℕ) (d : ColumnDef ColumnShape) → k < place → slice_get table.columns k ≡ Some d → (other : Reason) × Is k d other → ⊥)

-- ---- of a column

-- the geometries that a column of this type takes, if it is one of geometries
abbrev pub shape_in : ColumnType ColumnShape → Option ColumnShape
shape_in (column.Geometry shape) = Some shape
shape_in _ = None

abbrev pub shape_of : ColumnDef ColumnShape → Option ColumnShape
shape_of c = shape_in c.column_type

-- the field spells a geometry that has this fault, and this is a place of it (06-103r4, 6.1.7, 6.1.11.1 and 6.1.14)
pub record ShowsFault (field : List ℕ) (v : ValidityFault) (place : Place) : Type 0 where
  pub geometry : Geometry
  pub spelled : Spells field geometry
  pub has : HasFault geometry v
  pub shown : IsPlaceOf geometry v place

-- the field spells a geometry of this type, which a column that wants the other type doesn't take (06-104r4, 7.2)
pub record SpellsOther (field : List ℕ) (found wanted : GeometryType) : Type 0 where
  pub geometry : Geometry
  pub spelled : Spells field geometry
  pub type : type_of geometry ≡ found
  pub other : takes_type (Some wanted) found ≡ false

-- the reason names the column, and shows this fault of its field
abbrev pub IsInvalidIn : ColumnDef ColumnShape → List ℕ → ValidityFault → Reason → Type 0
IsInvalidIn c field v (reasons.Invalid name shown place) = (name.now ≡ c.name) × (shown ≡ v) × ShowsFault field v place
IsInvalidIn c field v _ = ⊥

-- the reason names the column, the type that it wants and that of its field
abbrev pub IsOtherTypeIn : ColumnDef ColumnShape → GeometryType → List ℕ → Reason → Type 0
IsOtherTypeIn c asked field (reasons.OtherType name found wanted) = (name.now ≡ c.name) × (wanted ≡ asked) × SpellsOther field found wanted
IsOtherTypeIn c asked field _ = ⊥

-- the reason names the column, and has the first fault of the text of its field, which spells no geometry (06-103r4, 7.2)
abbrev pub IsRefusedIn : ColumnDef ColumnShape → List ℕ → TextFault → Reason → Type 0
IsRefusedIn c field w (reasons.Refused name shown) = (name.now ≡ c.name) × (shown ≡ w) × (read_text field ≡ Err w)
IsRefusedIn c field w _ = ⊥

-- the reason of a fault of a geometry, of a field in a column of geometries
abbrev pub IsGeometryReason : ColumnDef ColumnShape → List ℕ → LoadFault → Reason → Type 0
IsGeometryReason c field (fault.BadGeometry number (g.Text w)) reason = (shape : ColumnShape) × (shape_of c ≡ Some shape) × IsRefusedIn c field w reason
IsGeometryReason c field (fault.BadGeometry number (g.Invalid v)) reason = (shape : ColumnShape) × (shape_of c ≡ Some shape) × IsInvalidIn c field v reason
IsGeometryReason c field (fault.WrongType number) reason = (wanted : GeometryType) × (shape_of c ≡ Some (Some wanted)) × IsOtherTypeIn c wanted field reason
IsGeometryReason c field _ reason = ⊥

-- the reason names the column, which is one of whole numbers, and shows the text of its field, which writes none of 64 bits (SQL, INTEGER)
abbrev pub IsNoIntegerIn : ColumnDef ColumnShape → List ℕ → Reason → Type 0
IsNoIntegerIn c field (reasons.NoInteger name text) =
    (c.column_type ≡ column.Integer) × (name.now ≡ c.name) × (text.items ≡ shown_text field) × (integer_of field ≡ None)
IsNoIntegerIn c field _ = ⊥

-- the reason names the column, which is one of texts, and whose field isn't UTF-8
abbrev pub IsNotUtf8In : ColumnDef ColumnShape → List ℕ → Reason → Type 0
IsNotUtf8In c field (reasons.NotUtf8 name) = (c.column_type ≡ column.Text) × (name.now ≡ c.name) × ¬ (IsUtf8 field)
IsNotUtf8In c field _ = ⊥

-- the reason of a fault of a field that isn't empty
abbrev pub IsFilledReason : ColumnDef ColumnShape → List ℕ → LoadFault → Reason → Type 0
IsFilledReason c field (fault.BadInteger number) reason = IsNoIntegerIn c field reason
IsFilledReason c field (fault.NotUtf8 number) reason = IsNotUtf8In c field reason
IsFilledReason c field f reason = IsGeometryReason c field f reason

-- the reason of a fault of a field in a column; an empty field is null, and has none
abbrev pub IsReasonIn : ColumnDef ColumnShape → List ℕ → LoadFault → Reason → Type 0
IsReasonIn c field f reason = (field ≢ []) × IsFilledReason c field f reason

-- the reason names the column, which takes no null, and whose field is empty
abbrev pub IsNullIn : Bool → ColumnDef ColumnShape → List ℕ → Reason → Type 0
IsNullIn required c field (reasons.Null name) = (required ≡ true) × (name.now ≡ c.name) × (field ≡ [])
IsNullIn required c field _ = ⊥

-- ---- of a header

-- how many fields of a header have the name of a column, in any ASCII case
abbrev pub named_fields : ColumnDef ColumnShape → Record → ℕ
named_fields c header = count_by (same_name c.name) header

-- the reason names the column, whose name the header lacks
abbrev pub IsMissingName : Record → ColumnDef ColumnShape → Reason → Type 0
IsMissingName header c (reasons.Missing name) = (name.now ≡ c.name) × (named_fields c header ≡ 0)
IsMissingName header c _ = ⊥

-- the reason names the column, whose name the header has more than once
abbrev pub IsRepeatedName : Record → ColumnDef ColumnShape → Reason → Type 0
IsRepeatedName header c (reasons.Repeated name) = (name.now ≡ c.name) × (2 ≤ named_fields c header)
IsRepeatedName header c _ = ⊥

-- the reason is of the name of one of the table's columns, the first that has one
abbrev pub IsOfName : (ColumnDef ColumnShape → Reason → Type 0) → TableDef ColumnShape → Reason → Type 0
IsOfName Is table reason = IsFirst (λ place c. Is c) table reason

-- ---- of a record

-- the reason has the lengths of a record and of its header, which differ
abbrev pub IsOfLengths : Record → Record → Reason → Type 0
IsOfLengths header fields (reasons.Lengths found wanted) = (found ≡ length fields) × (wanted ≡ length header) × (found ≢ wanted)
IsOfLengths header fields _ = ⊥

-- the reason is of the field in one of the table's columns, the first that has one
abbrev pub IsOfColumn : TableDef ColumnShape → Record → Record → LoadFault → Reason → Type 0
IsOfColumn table header fields f reason = IsFirst (λ place c. IsReasonIn c (field_under header fields c.name) f) table reason

-- the reason is that the field in one of the table's columns is null where it mustn't be, the first such
abbrev pub IsOfNull : TableDef ColumnShape → Record → Record → Reason → Type 0
IsOfNull table header fields reason =
    IsFirst (λ place c. IsNullIn (is_required table (place, c)) c (field_under header fields c.name)) table reason

-- the reason of a fault of a record under this header, or of the header
abbrev pub HasReason : TableDef ColumnShape → Record → Record → LoadFault → Reason → Type 0
HasReason table header fields fault.MissingColumn reason = IsOfName (IsMissingName header) table reason
HasReason table header fields fault.DoubleHeader reason = IsOfName (IsRepeatedName header) table reason
HasReason table header fields (fault.UnequalRecord number) reason = IsOfLengths header fields reason
HasReason table header fields (fault.NullNotAllowed number) reason = IsOfNull table header fields reason
HasReason table header fields f reason = IsOfColumn table header fields f reason

-- ---- of a key

-- the key of a record: the whole number that its field in the key's column writes, if it writes one (06-104r4, feature tables)
abbrev pub key_in : Option (ColumnDef ColumnShape) → Record → Record → Option ℤ
key_in None header fields = None
key_in (Some c) header fields = integer_of (field_under header fields c.name)

abbrev pub key_under : TableDef ColumnShape → Record → Record → Option ℤ
key_under table header fields = key_in (slice_get table.columns table.key) header fields

-- the record of this number has this key
abbrev pub HasKey : TableDef ColumnShape → Record → List Record → ℕ → ℤ → Type 0
HasKey table header read number key = (fields : Record) × (slice_get read number ≡ Some fields) × (key_under table header fields ≡ Some key)

-- the reason names the first record with the key of the record of this number, and that key
abbrev pub IsOfKey : TableDef ColumnShape → Record → List Record → ℕ → Reason → Type 0
IsOfKey table header read number (reasons.SameKey first key) =
    (1 ≤ first) × (first < number) × HasKey table header read number key × HasKey table header read first key
    × ((k : ℕ) → 1 ≤ k → k < first → HasKey table header read k key → ⊥)
IsOfKey table header read number _ = ⊥

-- the reason of a key that two records of some bytes have, if the bytes are known
pub record IsKeyReason (known : Option (List ℕ)) (table : TableDef ColumnShape) (number : ℕ) (reason : Reason) : Type 0 where
  pub header : Record
  pub read : List Record
  pub begins : BeginWith known read
  pub first : slice_get read 0 ≡ Some header
  pub has : IsOfKey table header read number reason

-- if the bytes are known, no reason is one, unless the record's number is past the limit of rows and one more
abbrev pub HasNoKeyReason : Option (List ℕ) → TableDef ColumnShape → ℕ → Type 0
HasNoKeyReason known table number =
    (text : List ℕ) → known ≡ Some text → number ≤ row_limit + 1 → (reason : Reason) → IsKeyReason (Some text) table number reason → ⊥

-- ---- of any fault

-- the reason of a table's fault: of a key that two records of some bytes have, and else of the header and the record that shows it
abbrev pub IsReasonOf : Option (List ℕ) → TableDef ColumnShape → Record → Record → LoadFault → Reason → Type 0
IsReasonOf known table header fields (fault.DoubleKey number) reason = IsKeyReason known table number reason
IsReasonOf known table header fields f reason = HasReason table header fields f reason
