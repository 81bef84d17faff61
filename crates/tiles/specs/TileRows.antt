-- What the records of a tile are read as.
use Rattle.std.specs.Prelude.{◌≡◌, ◌≤◌, ◌++◌, ℕ, true, List, [], ◌∷◌, filter, length, map, option_and_then, slice_get, Ok, Some}
use Rattle.std.specs.List.{AllZip}
use Rattle.geometry_model.specs.Envelopes.{envelope}
use Rattle.geometry_model.specs.Geometries.{Geometry}
use Rattle.feature_table.specs.GeometryFields.{reading}
use Rattle.table_laws.specs.Cells.{Cell, is_copied}
use Rattle.table_laws.specs.ColumnLaws.{fields_in}
use Rattle.table_laws.specs.Tiles.{geometry_at, marks}
use Rattle.table_model.specs.Definitions.{column_names, names_differ}
use Rattle.table_model.specs.GeometryColumns.{ColumnShape}
use Rattle.table_model.specs.Loading.{Record, row_limit, row_of, rows_of}
use Rattle.table_model.specs.Meanings.{Row}
use Rattle.table_model.specs.declared.definitions.ColumnDef.{ColumnDef}
use Rattle.table_model.specs.declared.definitions.ColumnType.TheVariants as column
use Rattle.table_model.specs.declared.definitions.TableDef.{TableDef}
use Rattle.tiles.specs.Copies.{tile_of}
use Rattle.tiles.specs.RecordLines.{places_in}

-- the definition of the tiles of a table: the columns that are copied, the key among them, and then two marks, all under names that differ
pub record IsWide (table wide : TableDef ColumnShape) (copied : List ℕ) : Type 0 where
  pub own : List (ColumnDef ColumnShape)
  pub west : ColumnDef ColumnShape
  pub south : ColumnDef ColumnShape
  pub columns : wide.columns ≡ own ++ west ∷ south ∷ []
  pub there : map Some own ≡ map (slice_get table.columns) copied
  pub key : slice_get copied wide.key ≡ Some table.key
  pub west_type : west.column_type ≡ column.Integer
  pub south_type : south.column_type ≡ column.Integer
  pub differ : names_differ (column_names wide.columns) ≡ true

-- the column at a place is one of geometries
abbrev pub IsOfGeometries : TableDef ColumnShape → ℕ → Type 0
IsOfGeometries table place = (c : ColumnDef ColumnShape) × (shape : ColumnShape) × (slice_get table.columns place ≡ Some c) × (c.column_type ≡ column.Geometry shape)

-- a typed row in a tile: the fields that are copied, then its marks in the cell
abbrev pub tile_row : List ℕ → ℕ → Cell → Row Geometry → Row Geometry
tile_row copied place cell row = fields_in copied row ++ marks cell (option_and_then envelope (geometry_at place row))

-- these are the typed rows of some records, whatever the records' numbers
abbrev pub AreTypedRows : TableDef ColumnShape → Record → List Record → List (Row Geometry) → Type 0
AreTypedRows table header records rows = AllZip (λ fields row. (number : ℕ) × (row_of reading table header number fields ≡ Ok row)) records rows

-- the records of a tile are read as the rows of the tile: those of the table's typed rows whose geometry is copied to the cell, each with
-- the fields that are copied and its marks (06-104r4, feature tables)
abbrev pub TilesAreRead : Type 0
TilesAreRead = (table wide : TableDef ColumnShape) (copied : List ℕ) (place : ℕ) (header : Record) (records : List Record) (typed : List (Row Geometry)) (cell : Cell)
    → IsWide table wide copied → IsOfGeometries table place → AreTypedRows table header records typed
    → length (tile_of (places_in header table.columns) place copied records cell) ≤ row_limit
    → rows_of reading wide (column_names wide.columns) (tile_of (places_in header table.columns) place copied records cell)
    ≡ Ok (map (tile_row copied place cell) (filter (λ row. is_copied cell (geometry_at place row)) typed))
