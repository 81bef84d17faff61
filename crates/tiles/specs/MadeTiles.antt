-- When a definition is that of the tiles of a table: by its columns one by one, as it is written and read again.
use Rattle.std.specs.Prelude.{◌≡◌, ◌+◌, ◌<◌, ℕ, true, List, Some, length, slice_get}
use Rattle.std.specs.List.{slice_index_or}
use Rattle.table_laws.specs.ColumnLaws.{IsNarrow}
use Rattle.table_laws.specs.TileLaws.{HasMarks}
use Rattle.table_model.specs.Definitions.{column_names, names_differ}
use Rattle.table_model.specs.GeometryColumns.{ColumnShape}
use Rattle.table_model.specs.declared.definitions.ColumnDef.{ColumnDef}
use Rattle.table_model.specs.declared.definitions.ColumnType.TheVariants as column
use Rattle.table_model.specs.declared.definitions.TableDef.{TableDef}

-- a definition has the columns that are copied of a table, one by one, then two of whole numbers, and its key is the table's; no two names are the same
pub record IsMadeOf (table wide : TableDef ColumnShape) (copied : List ℕ) (west south : ColumnDef ColumnShape) : Type 0 where
  pub copies : (turn : ℕ) → turn < length copied
      → (c : ColumnDef ColumnShape) × (slice_get table.columns (slice_index_or copied turn 0) ≡ Some c) × (slice_get wide.columns turn ≡ Some c)
  pub count : length wide.columns ≡ length copied + 2
  pub west_there : slice_get wide.columns (length copied) ≡ Some west
  pub south_there : slice_get wide.columns (length copied + 1) ≡ Some south
  pub west_type : west.column_type ≡ column.Integer
  pub south_type : south.column_type ≡ column.Integer
  pub key_within : wide.key < length copied
  pub key : slice_index_or copied wide.key 0 ≡ table.key
  pub differ : names_differ (column_names wide.columns) ≡ true

-- so it is what the laws of tiles ask of the definition of tiles: that of what is copied, with the columns of the marks behind (06-104r4, feature tables)
abbrev pub MadeTilesAreMarked : Type 0
MadeTilesAreMarked = (table wide : TableDef ColumnShape) (copied : List ℕ) (west south : ColumnDef ColumnShape)
    → IsMadeOf table wide copied west south
    → (narrow : TableDef ColumnShape) × IsNarrow table narrow copied × HasMarks narrow wide west south
