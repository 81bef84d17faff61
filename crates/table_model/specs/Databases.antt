-- Databases: tables of typed rows, and what loads them.
use Rattle.std.specs.Prelude.{◌&&◌, ℕ, Bool, true, false, List, [], ◌∷◌, Result, Ok, Err, map, zip}
use Rattle.std.specs.List.{enumerate_from}
use Rattle.table_model.specs.Loading.{GeometryReader, Record, each, load}
use Rattle.table_model.specs.Meanings.{Row, Table}
use Rattle.table_model.specs.declared.definitions.ColumnType.{ColumnType}
use Rattle.table_model.specs.declared.definitions.ColumnType.TheVariants as column
use Rattle.table_model.specs.declared.definitions.ColumnDef.{ColumnDef}
use Rattle.table_model.specs.declared.definitions.TableDef.{TableDef}
use Rattle.table_model.specs.declared.faults.LoadFault.{LoadFault}
use Rattle.table_model.specs.declared.faults.TableFault.{TableFault}
use Rattle.table_model.specs.declared.values.Value.{Value}
use Rattle.table_model.specs.declared.values.Value.TheVariants as value

-- a database: the definitions of its tables, and each table's rows by ascending key (06-104r4)
pub record Database (T G : Type 0) : Type 0 where
  pub definitions : List (TableDef T)
  pub tables : List (Table G)

-- whether a column of this type may hold a value: each may hold null (SQL)
abbrev pub fits_type : {T G : Type 0} → ColumnType T → Value G → Bool
fits_type kind value.Null = true
fits_type column.Integer (value.Integer n) = true
fits_type column.Integer (value.Text bytes) = false
fits_type column.Integer (value.Geometry g) = false
fits_type column.Text (value.Integer n) = false
fits_type column.Text (value.Text bytes) = true
fits_type column.Text (value.Geometry g) = false
fits_type (column.Geometry t) (value.Integer n) = false
fits_type (column.Geometry t) (value.Text bytes) = false
fits_type (column.Geometry t) (value.Geometry g) = true

-- whether a row has a value for each column, of the column's type (SQL)
abbrev pub fits_columns : {T G : Type 0} → List (ColumnDef T) → Row G → Bool
fits_columns [] [] = true
fits_columns [] (v ∷ row) = false
fits_columns (c ∷ columns) [] = false
fits_columns (c ∷ columns) (v ∷ row) = fits_type c.column_type v && fits_columns columns row

-- a table, or its fault with the table's place
abbrev pub at_table : {X : Type 0} → ℕ → Result X LoadFault → Result X TableFault
at_table place (Ok x) = Ok x
at_table place (Err f) = Err (record { table = place; fault = f })

-- what each list of records gives: a table, or its fault; there is one for each definition
abbrev pub loaded_tables : {T G : Type 0} → GeometryReader T G → List (TableDef T) → List (List Record) → List (Result (Table G) TableFault)
loaded_tables geometry definitions texts = map (λ t. at_table t.0 (load geometry t.1.0 t.1.1)) (enumerate_from 0 (zip definitions texts))

-- the tables of a database, or the first fault with its table, in the order of the schema
unfoldable pub load_tables : {T G : Type 0} → GeometryReader T G → List (TableDef T) → List (List Record) → Result (List (Table G)) TableFault
load_tables geometry definitions texts = each (loaded_tables geometry definitions texts)
