-- Laws of feature tables: what loads is a table, or a database, as the facts say.
use Rattle.std.specs.Prelude.{◌≡◌, true, List, Ok, length}
use Rattle.table_model.specs.Databases.{load_tables}
use Rattle.table_model.specs.Definitions.{lawful}
use Rattle.table_model.specs.FeatureTables.{AreRows, IsDatabase, Takes, TakesValid}
use Rattle.table_model.specs.GeometryColumns.{read_geometry}
use Rattle.table_model.specs.Loading.{GeometryReader, Record, load}
use Rattle.table_model.specs.Meanings.{Table}
use Rattle.table_model.specs.declared.definitions.TableDef.{TableDef}

-- what loads for a definition with this reader of geometries are the rows of a table (06-104r4, feature tables)
abbrev pub LoadsRows : {T G : Type 0} → Takes T G → GeometryReader T G → Type 0
LoadsRows {T} {G} takes geometry = (table : TableDef T) (records : List Record) (rows : Table G) → load geometry table records ≡ Ok rows → AreRows takes table rows

-- what loads for lawful definitions with this reader of geometries is a database (06-104r4)
abbrev pub LoadsDatabase : {T G : Type 0} → Takes T G → GeometryReader T G → Type 0
LoadsDatabase {T} {G} takes geometry = (definitions : List (TableDef T)) (texts : List (List Record)) (tables : List (Table G))
    → lawful definitions ≡ true → length texts ≡ length definitions → load_tables geometry definitions texts ≡ Ok tables
    → IsDatabase takes (record { definitions = definitions; tables = tables })

-- the law for tables with geometry columns: their geometries are valid and of their columns' types (06-104r4, 7.2)
abbrev pub LoadedAreRows : Type 0
LoadedAreRows = LoadsRows TakesValid read_geometry

-- the law for databases with geometry columns (06-104r4)
abbrev pub LoadedIsDatabase : Type 0
LoadedIsDatabase = LoadsDatabase TakesValid read_geometry
