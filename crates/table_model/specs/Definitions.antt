-- Schemas: when a list of table definitions is lawful.
use Rattle.std.specs.Prelude.{◌&&◌, ℕ, Bool, true, false, not, List, [], ◌∷◌, Option, Some, None, length, map, nat_le, slice_get}
use Rattle.std.specs.List.{list_all, list_any}
use Rattle.table_model.specs.Texts.{same_name}
use Rattle.table_model.specs.declared.definitions.ColumnType.{ColumnType}
use Rattle.table_model.specs.declared.definitions.ColumnType.TheVariants as column
use Rattle.table_model.specs.declared.definitions.ColumnDef.{ColumnDef}
use Rattle.table_model.specs.declared.definitions.TableDef.{TableDef}

-- the most tables of a schema: 16 (this project's choice)
abbrev pub most_tables : ℕ
most_tables = 16

-- the most columns of a table: 32 (this project's choice)
abbrev pub most_columns : ℕ
most_columns = 32

-- no two of these names are the same (names are compared without regard to ASCII case)
abbrev pub names_differ : List (List ℕ) → Bool
names_differ [] = true
names_differ (name ∷ names) = not (list_any (same_name name) names) && names_differ names

-- whether a column holds whole numbers
abbrev pub is_integer : {T : Type 0} → ColumnType T → Bool
is_integer column.Integer = true
is_integer column.Text = false
is_integer (column.Geometry kind) = false

-- whether there is a column and it may be a key: keys are whole numbers
abbrev pub may_be_key : {T : Type 0} → Option (ColumnDef T) → Bool
may_be_key None = false
may_be_key (Some c) = is_integer c.column_type

-- the names of a table's columns
abbrev pub column_names : {T : Type 0} → List (ColumnDef T) → List (List ℕ)
column_names columns = map (λ c. c.name) columns

-- a table has at most 32 columns, whose names differ, and one of them is its key
abbrev pub lawful_table : {T : Type 0} → TableDef T → Bool
lawful_table table = nat_le (length table.columns) most_columns && (names_differ (column_names table.columns) && may_be_key (slice_get table.columns table.key))

-- a schema has at most 16 tables, whose names differ, each of them lawful
unfoldable pub lawful : {T : Type 0} → List (TableDef T) → Bool
lawful tables = nat_le (length tables) most_tables && (names_differ (map (λ t. t.name) tables) && list_all lawful_table tables)
