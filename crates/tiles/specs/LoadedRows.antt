-- What a table's check and a geometry's text say of the rows that load.
use Rattle.std.specs.Prelude.{◌≡◌, ◌≤◌, List, All, Ok, drop, length}
use Rattle.feature_table.specs.GeometryFields.{ShapeValue, reading}
use Rattle.geometry_model.specs.Geometries.{Geometry}
use Rattle.table_laws.specs.TileLaws.{FieldOnGrid}
use Rattle.table_model.specs.Loading.{Record, and_then, load, row_limit}
use Rattle.table_model.specs.Meanings.{Table}
use Rattle.table_model.specs.declared.definitions.TableDef.{TableDef}
use Rattle.tiles.specs.Checks.{checked}

-- of up to 100,000 records a check gives how many rows load, or the fault of loading (06-104r4, feature tables)
abbrev pub CheckedIsLoaded : Type 0
CheckedIsLoaded = (table : TableDef ShapeValue) (records : List Record) → length (drop 1 records) ≤ row_limit
    → checked reading table records ≡ and_then (load reading table records) (λ rows. Ok (length rows))

-- the geometries of a table that loads are on the grid (06-103r4, 7.2; the grid: this project's choice)
abbrev pub LoadedAreOnGrid : Type 0
LoadedAreOnGrid = (table : TableDef ShapeValue) (records : List Record) (rows : Table Geometry) → load reading table records ≡ Ok rows
    → All (λ row. All FieldOnGrid row) rows
