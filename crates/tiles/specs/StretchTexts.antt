-- What the texts of stretches load as.
use Rattle.std.specs.Prelude.{◌≡◌, ◌<◌, ◌≤◌, ℕ, true, List, Ok, Some, length, map, slice_get}
use Rattle.std.specs.List.{AllZip, range_with_len}
use Rattle.feature_table.specs.GeometryFields.{reading}
use Rattle.feature_table.specs.Tables.{table_in}
use Rattle.geometry_model.specs.Geometries.{Geometry}
use Rattle.table_laws.specs.ColumnLaws.{IsNarrow, fields_in}
use Rattle.table_laws.specs.StretchLaws.{AreStretches}
use Rattle.table_model.specs.Databases.{Database}
use Rattle.table_model.specs.Definitions.{column_names, names_differ}
use Rattle.table_model.specs.GeometryColumns.{ColumnShape}
use Rattle.table_model.specs.Loading.{Record, row_limit}
use Rattle.table_model.specs.Meanings.{Table}
use Rattle.table_model.specs.declared.conditions.Reference.{Reference}
use Rattle.table_model.specs.declared.definitions.TableDef.{TableDef}
use Rattle.tiles.specs.Copies.{stretches_of, table_at}
use Rattle.tiles.specs.LoadedTexts.{BeginsWord}
use Rattle.tiles.specs.RecordLines.{names_of}
use Rattle.tiles.specs.WholeTables.{whole_table}

-- the text of a stretch of this number, as `write_stretches` writes it
abbrev pub stretch_text : TableDef ColumnShape → List ℕ → List Record → ℕ → ℕ → List ℕ
stretch_text table copied records size number = table_at (names_of table.columns copied) (stretches_of size table.columns copied records) number

-- the text of each stretch of a whole table loads, and what they load as are the stretches of the table with the columns that are copied
-- (06-104r4, feature tables)
abbrev pub StretchTextsAreLoaded : Type 0
StretchTextsAreLoaded = (table narrow : TableDef ColumnShape) (copied : List ℕ) (records : List Record) (rows : Table Geometry) (size : ℕ)
    → whole_table reading table records ≡ Ok rows → IsNarrow table narrow copied → names_differ (column_names narrow.columns) ≡ true
    → BeginsWord (column_names narrow.columns) → 0 < size → size ≤ row_limit
    → (parts : List (Table Geometry))
    × AllZip (λ number part. table_in reading narrow (stretch_text table copied records size number) ≡ Ok part)
    (range_with_len 0 (length (stretches_of size table.columns copied records))) parts
    × ((whole : Database ColumnShape Geometry) (reference : Reference) → slice_get whole.definitions reference.table ≡ Some narrow
    → slice_get whole.tables reference.table ≡ Some (map (fields_in copied) rows) → AreStretches whole reference parts)
