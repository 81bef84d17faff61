-- What the index of a column lists.
use Rattle.std.specs.Prelude.{◌≡◌, ⊤, ℕ, List, map, None, Option, Some, option_and_then, slice_get, unwrap_or}
use Rattle.geometry_model.specs.Envelopes.{Envelope, envelope}
use Rattle.geometry_model.specs.Geometries.{Geometry}
use Rattle.table_model.specs.Arguments.{geometry_in}
use Rattle.table_model.specs.Meanings.{Row, Table}
use Rattle.table_model.specs.GeometryColumns.{ColumnShape}
use Rattle.table_model.specs.declared.definitions.ColumnType.{ColumnType}
use Rattle.table_model.specs.declared.definitions.ColumnType.TheVariants as column
use Rattle.table_model.specs.declared.values.Value.{Value}
use Rattle.table_model.specs.declared.values.Value.TheVariants as values
use Rattle.feature_table.specs.declared.indexes.Indexes.{Indexes}

-- the envelope of the geometry in a field; absent for null and for an empty geometry (06-103r4, 6.1.2.2: Envelope)
abbrev pub field_envelope : Value Geometry → Option Envelope
field_envelope v = option_and_then envelope (geometry_in v)

-- the field of a row in a column; null if there is none
abbrev pub field_in : ℕ → Row Geometry → Value Geometry
field_in column row = unwrap_or (slice_get row column) values.Null

-- the envelopes of a column, row by row (06-103r4, 6.1.2.2: Envelope)
abbrev pub column_envelopes : ℕ → Table Geometry → List (Option Envelope)
column_envelopes column rows = map (λ row. field_envelope (field_in column row)) rows

-- an absent envelope for each row
abbrev pub absent : Row Geometry → Option Envelope
absent row = None

-- each column has an index that lists its envelopes: its own, or the one that all columns without geometries share
pub record AreIndexes {I : Type 0} (indexed : I → List (Option Envelope)) (rows : Table Geometry) (own : List (Option I)) (bare : I) : Type 0 where
  pub of_own : (column : ℕ) (index : I) → slice_get own column ≡ Some (Some index) → indexed index ≡ column_envelopes column rows
  pub of_others : (column : ℕ) → unwrap_or (slice_get own column) None ≡ None → indexed bare ≡ column_envelopes column rows

-- the indexes list the envelopes of each column of these rows
abbrev pub ListColumns : {I : Type 0} → (I → List (Option Envelope)) → Table Geometry → Indexes I → Type 0
ListColumns indexed rows indexes = AreIndexes indexed rows indexes.own.items indexes.bare

-- a column of this type holds no geometry
abbrev pub HoldsNone : ColumnType ColumnShape → Type 0
HoldsNone column.Integer = ⊤
HoldsNone column.Text = ⊤
HoldsNone (column.Geometry shape) = ⊥
