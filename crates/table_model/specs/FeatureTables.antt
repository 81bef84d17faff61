-- Feature tables and databases: what their rows are, whatever they were loaded from. Generic in what names a type of
-- geometry columns, in what a geometry is, and in which geometries a column of a type takes.
use Rattle.std.specs.Prelude.{◌≡◌, ◌≢◌, ◌≤◌, ◌<ℤ◌, ℕ, true, [], length, slice_get, All, Some, ⊤}
use Rattle.std.specs.List.{AllPairs}
use Rattle.std.specs.Str.{is_utf8}
use Rattle.geometry_model.specs.Geometries.{Geometry, type_of}
use Rattle.geometry_model.specs.Validity.{IsValid}
use Rattle.table_model.specs.Databases.{Database}
use Rattle.table_model.specs.Definitions.{lawful}
use Rattle.table_model.specs.GeometryColumns.{ColumnShape, takes_type}
use Rattle.table_model.specs.Loading.{fits_64_bits, is_required, key_of, row_limit}
use Rattle.table_model.specs.Meanings.{Row, Table}
use Rattle.table_model.specs.declared.definitions.ColumnDef.{ColumnDef}
use Rattle.table_model.specs.declared.definitions.ColumnType.{ColumnType}
use Rattle.table_model.specs.declared.definitions.ColumnType.TheVariants as column
use Rattle.table_model.specs.declared.definitions.TableDef.{TableDef}
use Rattle.table_model.specs.declared.values.Value.{Value}
use Rattle.table_model.specs.declared.values.Value.TheVariants as value

-- which geometries a column of a type takes (06-104r4, 7.2)
abbrev pub Takes : Type 0 → Type 0 → Type 1
Takes T G = T → G → Type 0

-- a value for a column of this type: null fits each; a number has 64 bits, a text is UTF-8 and not empty, a geometry is one
-- that the column takes (SQL; 06-104r4, 7.2)
abbrev pub IsValueFor : {T G : Type 0} → Takes T G → ColumnType T → Value G → Type 0
IsValueFor takes kind value.Null = ⊤
IsValueFor takes column.Integer (value.Integer n) = fits_64_bits n ≡ true
IsValueFor takes column.Integer (value.Text bytes) = ⊥
IsValueFor takes column.Integer (value.Geometry g) = ⊥
IsValueFor takes column.Text (value.Integer n) = ⊥
IsValueFor takes column.Text (value.Text bytes) = (bytes ≢ []) × (is_utf8 bytes ≡ true)
IsValueFor takes column.Text (value.Geometry g) = ⊥
IsValueFor takes (column.Geometry t) (value.Integer n) = ⊥
IsValueFor takes (column.Geometry t) (value.Text bytes) = ⊥
IsValueFor takes (column.Geometry t) (value.Geometry g) = takes t g

-- a row of a table: for each column a value of its type, not null if NOT NULL is written or the column is the key
-- (SQL; 06-104r4, feature tables)
pub record IsRow {T G : Type 0} (takes : Takes T G) (table : TableDef T) (row : Row G) : Type 0 where
  pub width : length row ≡ length table.columns
  pub typed : (place : ℕ) (c : ColumnDef T) (v : Value G) → slice_get table.columns place ≡ Some c → slice_get row place ≡ Some v
      → IsValueFor takes c.column_type v × (is_required table (place, c) ≡ true → v ≢ value.Null)

-- the rows of a table: at most 100,000, the key of each below those of all later ones
-- (06-104r4, feature tables; the limit: this project's choice)
pub record AreRows {T G : Type 0} (takes : Takes T G) (table : TableDef T) (rows : Table G) : Type 0 where
  pub few : length rows ≤ row_limit
  pub each : All (IsRow takes table) rows
  pub ascend : AllPairs (λ a b. key_of table.key a <ℤ key_of table.key b) rows

-- a database: lawful definitions, and for each the rows of its table (06-104r4)
pub record IsDatabase {T G : Type 0} (takes : Takes T G) (database : Database T G) : Type 0 where
  pub lawful : lawful database.definitions ≡ true
  pub count : length database.tables ≡ length database.definitions
  pub tables : (place : ℕ) (table : TableDef T) (rows : Table G) → slice_get database.definitions place ≡ Some table → slice_get database.tables place ≡ Some rows
      → AreRows takes table rows

-- a column takes the valid geometries of its type, and of each type where it is GEOMETRY (06-104r4, 7.1; 06-103r4, 6.1)
abbrev pub TakesValid : Takes ColumnShape Geometry
TakesValid shape g = (takes_type shape (type_of g) ≡ true) × IsValid g
