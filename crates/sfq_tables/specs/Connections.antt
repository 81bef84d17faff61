-- Databases that C keeps: how one is opened, what a load changes, and what is named of it.
use Rattle.std.specs.Prelude.{◌≡◌, ℕ, Bool, if◌then◌else◌, is_none, is_some, List, [], Option, Some, None, Result, Ok, length, slice_get, slice_index_or}
use Rattle.std.specs.List.{position}
use Rattle.std.specs.Option.{option_and_then, option_map, option_map_or}
use Rattle.feature_table.specs.GeometryFields.{reading}
use Rattle.feature_table.specs.Tables.{table_in}
use Rattle.kept_tables.specs.KeptTables.{KeptTables, is_loaded, opened, with_table}
use Rattle.statements.specs.Statements.{IsOver}
use Rattle.statements.specs.declared.prepared.Statement.{Statement}
use Rattle.table_model.specs.GeometryColumns.{ColumnShape, shape_named}
use Rattle.table_model.specs.SchemaGrammar.{IsSchema}
use Rattle.table_model.specs.SchemaReading.{schema_of}
use Rattle.table_model.specs.SpatialTables.{SpatialDatabase, SpatialSchema, SpatialTable}
use Rattle.table_model.specs.declared.definitions.ColumnDef.{ColumnDef}
use Rattle.table_model.specs.declared.definitions.ColumnType.{ColumnType}
use Rattle.table_model.specs.declared.definitions.ColumnType.TheVariants as column
use Rattle.table_model.specs.declared.definitions.TableDef.{TableDef}
use Rattle.table_model.specs.declared.faults.LoadFault.{LoadFault}
use Rattle.library_calls.specs.Refusals.{ok, unknown}
use Rattle.sfq_tables.specs.TableFaults.{IsRefusedWith, load_fault_in_numbers, status_of_reading}
use Rattle.sfq_tables.specs.declared.table_faults.TablesFault.{TablesFault}

-- a database that is kept, and a slot for each number of a statement: the open statement of this number, if there is one
pub record Connected : Type 0 where
  pub database : KeptTables
  pub statements : List (Option Statement)

-- each open statement is over the database
abbrev pub AreOver : SpatialDatabase → List (Option Statement) → Type 0
AreOver database slots = (number : ℕ) (statement : Statement) → slice_index_or slots number None ≡ Some statement → IsOver database statement

-- whether no statement is open
abbrev pub is_idle : Connected → Bool
is_idle connected = is_none (position is_some connected.statements)

-- the status where statements are open
abbrev pub statements_open : ℕ
statements_open = 10

-- ---- opening and loading

-- the text spells a schema, and the database is that of this schema, of which no table is loaded (SQL, CREATE TABLE)
pub record IsOpened (text : List ℕ) (connected : Connected) : Type 0 where
  pub schema : SpatialSchema
  pub is_schema : IsSchema shape_named text schema
  pub read : schema_of shape_named text ≡ Ok schema
  pub opened : connected.database ≡ opened schema
  pub none_open : connected.statements ≡ []

-- the table at a place as a text gives it, or the text's fault; absent where the schema has no such place (06-104r4, feature tables)
abbrev pub table_of : KeptTables → ℕ → List ℕ → Option (Result SpatialTable LoadFault)
table_of kept place text = option_map (λ (d : TableDef ColumnShape). table_in reading d text) (slice_get kept.definitions place)

-- exactly the table of the text is put at the place, and is loaded (06-104r4, feature tables)
pub record HasLoaded (before : KeptTables) (place : ℕ) (text : List ℕ) (after : KeptTables) : Type 0 where
  pub table : SpatialTable
  pub read : table_of before place text ≡ Some (Ok table)
  pub put : after ≡ with_table place table before

-- the status of loading a table where memory is enough and no statement is open
abbrev pub status_of_table : KeptTables → ℕ → List ℕ → ℕ
status_of_table kept place text = option_map_or status_of_reading (table_of kept place text) unknown

-- the status of loading a table where memory is enough
abbrev pub status_of_load : Connected → ℕ → List ℕ → ℕ
status_of_load connected place text = if is_idle connected then status_of_table connected.database place text else statements_open

-- the text isn't that of the table at the place, and this is its first fault in numbers
pub record IsUnloadedFor (kept : KeptTables) (place : ℕ) (text : List ℕ) (new : TablesFault) : Type 0 where
  pub reading : Result SpatialTable LoadFault
  pub is_reading : table_of kept place text ≡ Some reading
  pub refused : IsRefusedWith load_fault_in_numbers reading new

-- ---- names

-- the status of what a number names, if it names anything
abbrev pub status_of_named : {A : Type 0} → Option A → ℕ
status_of_named named = option_map_or (λ _. ok) named unknown

-- the definition of the table at a place
abbrev pub definition_at : Connected → ℕ → Option (TableDef ColumnShape)
definition_at connected place = slice_get connected.database.definitions place

-- the name of the table at a place, as the schema spells it
abbrev pub table_name_at : Connected → ℕ → Option (List ℕ)
table_name_at connected place = option_map (λ (d : TableDef ColumnShape). d.name) (definition_at connected place)

-- how many columns the table at a place has
abbrev pub column_count_at : Connected → ℕ → Option ℕ
column_count_at connected place = option_map (λ (d : TableDef ColumnShape). length d.columns) (definition_at connected place)

-- the column at a place of the table at a place
abbrev pub column_at : Connected → ℕ → ℕ → Option (ColumnDef ColumnShape)
column_at connected place column = option_and_then (λ (d : TableDef ColumnShape). slice_get d.columns column) (definition_at connected place)

-- the number of a column's type: 0 of integers, 1 of texts, 2 of geometries
abbrev pub type_number : ColumnType ColumnShape → ℕ
type_number column.Integer = 0
type_number column.Text = 1
type_number (column.Geometry shape) = 2

-- whether the table at a place is loaded
abbrev pub loaded_at : Connected → ℕ → Option Bool
loaded_at connected place = option_map (λ (d : TableDef ColumnShape). is_loaded connected.database place) (definition_at connected place)
