-- What is read as a geometry is one that its column takes, so what loads are the rows of a table, and tables that load are
-- those of a database.
use Rattle.std.proofs.Common.{◌≡◌, List, Ok, length, true}
use Rattle.feature_table.specs.GeometryFields.{GeometryValue, ShapeValue, reading, takes}
use Rattle.table_laws.proofs.ReadGeometries.{loaded_are_rows, loaded_is_database}
use Rattle.table_model.specs.Databases.{load_tables}
use Rattle.table_model.specs.Definitions.{lawful}
use Rattle.table_model.specs.FeatureTables.{AreRows, IsDatabase}
use Rattle.table_model.specs.Loading.{Record, load}
use Rattle.table_model.specs.Meanings.{Table}
use Rattle.table_model.specs.declared.definitions.TableDef.{TableDef}

-- each field was read as its column takes it, so the rows that load are rows of the table
pub table_rows : (table : TableDef ShapeValue) (records : List Record) (rows : Table GeometryValue) → load reading table records ≡ Ok rows → AreRows takes table rows
table_rows = loaded_are_rows

-- and the tables that load of a lawful schema are a database of it
pub tables_database : (definitions : List (TableDef ShapeValue)) (records : List (List Record)) (tables : List (Table GeometryValue)) → lawful definitions ≡ true
    → length records ≡ length definitions → load_tables reading definitions records ≡ Ok tables
    → IsDatabase takes (record { definitions = definitions; tables = tables })
tables_database = loaded_is_database
