-- The columns of a statement's rows: what their fields are, and the number in a field.
use Rattle.std.specs.Prelude.{◌^◌, ℕ, ℤ, pos, nat_lt, Bool, true, false, if◌then◌else◌, List, [], ◌∷◌, Option, Some, None, slice_get}
use Rattle.std.specs.Option.{option_and_then}
use Rattle.executor.specs.Pairs.{pair_rows}
use Rattle.geometry_model.specs.Geometries.{Geometry, is_empty, kind}
use Rattle.statements.specs.declared.column_kinds.ColumnKind.{ColumnKind}
use Rattle.statements.specs.declared.column_kinds.ColumnKind.TheVariants as kinds
use Rattle.statements.specs.declared.current_rows.CurrentRow.{CurrentRow}
use Rattle.statements.specs.declared.current_rows.CurrentRow.TheVariants as current
use Rattle.statements.specs.declared.prepared.Statement.{Statement}
use Rattle.statements.specs.Statements.{row_record}
use Rattle.table_model.specs.BoundQueries.{place_type}
use Rattle.table_model.specs.Meanings.{Row, referenced}
use Rattle.table_model.specs.SpatialTables.{SpatialDatabase, SpatialQuery, SpatialSchema}
use Rattle.table_model.specs.Truths.{dimension, field_at}
use Rattle.table_model.specs.declared.conditions.ColumnPlace.{ColumnPlace}
use Rattle.table_model.specs.declared.conditions.Item.{Item}
use Rattle.table_model.specs.declared.conditions.Item.TheVariants as items
use Rattle.table_model.specs.declared.conditions.Reference.{Reference}
use Rattle.table_model.specs.declared.queries.Explain.{Explain}
use Rattle.table_model.specs.declared.queries.Explain.TheVariants as explains
use Rattle.table_model.specs.declared.typing.OperandType.{OperandType}
use Rattle.table_model.specs.declared.typing.OperandType.TheVariants as types
use Rattle.table_model.specs.declared.values.Value.{Value}
use Rattle.table_model.specs.declared.values.Value.TheVariants as values

-- ---- fields

-- the field of a column of the row that is there; none where no row is there, and none past the last column
abbrev pub field_of : SpatialDatabase → Statement → ℕ → Option (List ℕ)
field_of database statement column = option_and_then (λ fields. slice_get fields column) (row_record database statement)

-- ---- kinds

-- the kind of a column of a table
abbrev pub kind_of : Option OperandType → Option ColumnKind
kind_of None = None
kind_of (Some types.Integer) = Some kinds.Integer
kind_of (Some types.Text) = Some kinds.Text
kind_of (Some types.Geometry) = Some kinds.Geometry
kind_of (Some types.Null) = None

-- the kind of an item of the select list
abbrev pub item_kind : SpatialSchema → List Reference → Item ColumnPlace → Option ColumnKind
item_kind definitions references (items.Column place) = kind_of (place_type definitions references place)
item_kind definitions references (items.AsText place) = Some kinds.Text
item_kind definitions references (items.Dimension place) = Some kinds.Integer
item_kind definitions references (items.IsEmpty place) = Some kinds.Integer

-- the kind of a column: that of its item; a number under COUNT(*), and a text under EXPLAIN
abbrev pub kind_by : Explain → Bool → SpatialSchema → SpatialQuery → ℕ → Option ColumnKind
kind_by explains.No true definitions query column = slice_get (kinds.Integer ∷ []) column
kind_by explains.No false definitions query column = option_and_then (item_kind definitions query.references) (slice_get query.items column)
kind_by explains.Plan counts definitions query column = slice_get (kinds.Text ∷ []) column
kind_by explains.Analyze counts definitions query column = slice_get (kinds.Text ∷ []) column

-- the kind of a column of a query; none past the last
abbrev pub column_kind : SpatialSchema → SpatialQuery → ℕ → Option ColumnKind
column_kind definitions query column = kind_by query.explain query.counts definitions query column

-- ---- numbers

-- the number in a field of a table
abbrev pub value_number : Value Geometry → Option ℤ
value_number values.Null = None
value_number (values.Integer n) = Some n
value_number (values.Text bytes) = None
value_number (values.Geometry g) = None

-- ST_Dimension and ST_IsEmpty of a field, as a number (06-103r4, 6.1.2.2: Dimension, IsEmpty)
abbrev pub dimension_number : Value Geometry → Option ℤ
dimension_number values.Null = None
dimension_number (values.Integer n) = None
dimension_number (values.Text bytes) = None
dimension_number (values.Geometry g) = Some (dimension (kind g))

abbrev pub emptiness_number : Value Geometry → Option ℤ
emptiness_number values.Null = None
emptiness_number (values.Integer n) = None
emptiness_number (values.Text bytes) = None
emptiness_number (values.Geometry g) = if is_empty g then Some (pos 1) else Some (pos 0)

-- the number of an item at some rows; of NULL and of what is no number there is none
abbrev pub item_number : List (Row Geometry) → Item ColumnPlace → Option ℤ
item_number rows (items.Column place) = value_number (field_at rows place)
item_number rows (items.AsText place) = None
item_number rows (items.Dimension place) = dimension_number (field_at rows place)
item_number rows (items.IsEmpty place) = emptiness_number (field_at rows place)

-- a number of rows, if it is one of 64 bits with a sign
abbrev pub count_number : ℕ → Option ℤ
count_number count = if nat_lt count (2 ^ 63) then Some (pos count) else None

-- the number in a column of the row that is there
abbrev pub number_by : SpatialDatabase → SpatialQuery → ℕ → CurrentRow → Option ℤ
number_by database query column current.Absent = None
number_by database query column (current.Pair pair) =
    option_and_then (item_number (pair_rows (referenced database.tables query.references) pair)) (slice_get query.items column)
number_by database query column (current.Count count) = option_and_then count_number (slice_get (count ∷ []) column)
number_by database query column (current.Line begin end) = None

abbrev pub number_of : SpatialDatabase → Statement → ℕ → Option ℤ
number_of database statement column = number_by database statement.bound column statement.row
