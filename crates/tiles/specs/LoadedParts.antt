-- What the records of parts load as: the rows of the stretches and of the tiles of a whole table.
use Rattle.std.specs.Prelude.{◌≡◌, ◌<◌, ◌≤◌, ℕ, true, List, ◌∷◌, Contains, Ok, Some, drop, length, map, slice_get}
use Rattle.std.specs.List.{AllZip}
use Rattle.feature_table.specs.GeometryFields.{reading}
use Rattle.geometry_model.specs.Geometries.{Geometry}
use Rattle.table_laws.specs.Cells.{Cell}
use Rattle.table_laws.specs.ColumnLaws.{IsNarrow, fields_in, place_among}
use Rattle.table_laws.specs.StretchLaws.{AreStretches}
use Rattle.table_laws.specs.TileLaws.{HasMarks}
use Rattle.table_laws.specs.Tiles as law
use Rattle.table_model.specs.Databases.{Database}
use Rattle.table_model.specs.Definitions.{column_names, names_differ}
use Rattle.table_model.specs.GeometryColumns.{ColumnShape}
use Rattle.table_model.specs.Loading.{Record, load, row_limit}
use Rattle.table_model.specs.Meanings.{Table}
use Rattle.table_model.specs.declared.conditions.Reference.{Reference}
use Rattle.table_model.specs.declared.definitions.ColumnDef.{ColumnDef}
use Rattle.table_model.specs.declared.definitions.TableDef.{TableDef}
use Rattle.tiles.specs.Copies.{header_of, stretches_of, tile_of}
use Rattle.tiles.specs.RecordLines.{places_in}
use Rattle.tiles.specs.TileRows.{IsOfGeometries}
use Rattle.tiles.specs.WholeTables.{whole_table}

-- the records of each stretch of a whole table load, and what they load as are the stretches of the table with the columns that are copied (06-104r4,
-- feature tables)
abbrev pub StretchesAreLoaded : Type 0
StretchesAreLoaded = (table narrow : TableDef ColumnShape) (copied : List ℕ) (records : List Record) (rows : Table Geometry) (size : ℕ)
    → whole_table reading table records ≡ Ok rows → IsNarrow table narrow copied → names_differ (column_names narrow.columns) ≡ true
    → 0 < size → size ≤ row_limit
    → (parts : List (Table Geometry))
    × AllZip (λ stretch part. load reading narrow (column_names narrow.columns ∷ stretch) ≡ Ok part) (stretches_of size table.columns copied records) parts
    × ((whole : Database ColumnShape Geometry) (reference : Reference) → slice_get whole.definitions reference.table ≡ Some narrow
    → slice_get whole.tables reference.table ≡ Some (map (fields_in copied) rows) → AreStretches whole reference parts)

-- the records of a tile of a whole table load as the tile of the table with the columns that are copied (06-104r4, feature tables)
abbrev pub TilesAreLoaded : Type 0
TilesAreLoaded = (table narrow wide : TableDef ColumnShape) (w s : ColumnDef ColumnShape) (copied : List ℕ) (place : ℕ) (records : List Record) (rows : Table Geometry) (cell : Cell)
    → whole_table reading table records ≡ Ok rows → IsNarrow table narrow copied → HasMarks narrow wide w s
    → names_differ (column_names wide.columns) ≡ true → IsOfGeometries table place → Contains copied place
    → length (tile_of (places_in (header_of records) table.columns) place copied (drop 1 records) cell) ≤ row_limit
    → load reading wide (column_names wide.columns ∷ tile_of (places_in (header_of records) table.columns) place copied (drop 1 records) cell)
    ≡ Ok (law.tile_of cell (place_among copied place) (map (fields_in copied) rows))
