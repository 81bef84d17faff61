-- The tables that are written of the records of a table: its tiles, or its stretches.
use Rattle.std.specs.Prelude.{◌≡◌, ◌+◌, ◌-◌, ◌*◌, ◌/◌, ◌==◌, if◌then◌else◌, ℕ, Bool, false, List, [], ◌∷◌, ◌++◌, All, None, Option, drop, filter, length, map, option_and_then, option_map, slice_get, slice_index_or, take, unwrap_or}
use Rattle.std.specs.List.{flat_map, range_with_len}
use Rattle.tiles.specs.declared.plain_records.PlainRecords.{PlainRecords}
use Rattle.geometry_model.specs.Envelopes.{Envelope, envelope, meets}
use Rattle.geometry_model.specs.Geometries.{Geometry}
use Rattle.tiles.specs.PlainRecords.{GivesRest}
use Rattle.feature_table.specs.Tables.{AreRecordsOf}
use Rattle.table_model.specs.Loading.{Record, header_fault}
use Rattle.table_model.specs.declared.definitions.ColumnDef.{ColumnDef}
use Rattle.table_laws.specs.Cells.{Cell, cells_of, is_copied}
use Rattle.tiles.specs.RecordLines.{field_in, geometry_in_field, line_of, mark_fields, places_in}
use Rattle.tiles.specs.Texts.{Grow, Texts}

-- ---- records

-- the header of a table's records: the first; without a field if there is none (RFC 4180, 2)
abbrev pub header_of : List Record → Record
header_of records = slice_index_or records 0 []

-- these are a table's records: those of the reader's bytes, where these are known; the header has each column's name once, and each
-- record is as long as the header (06-104r4, feature tables)
pub record AreRecordsOfTable {T : Type 0} (known : Option (List ℕ)) (columns : List (ColumnDef T)) (records : List Record) : Type 0 where
  pub are_of : AreRecordsOf known records
  pub header : header_fault columns (header_of records) ≡ None
  pub even : All (λ fields. length fields ≡ length (header_of records)) records

-- ---- tables

-- the geometry of a record in a column; the columns of the table are at these places of the header
abbrev pub geometry_in : List ℕ → ℕ → Record → Option Geometry
geometry_in places column fields = geometry_in_field (field_in places fields column)

-- the fields of a record that are copied: those in some columns, in this order (SQL, the select list)
abbrev pub copied_fields : List ℕ → List ℕ → Record → Record
copied_fields places copied fields = map (field_in places fields) copied

-- a record in a tile: the fields that are copied, then its marks (this project's choice)
abbrev pub marked_fields : List ℕ → ℕ → List ℕ → Cell → Record → Record
marked_fields places column copied cell fields = copied_fields places copied fields ++ mark_fields cell (option_and_then envelope (geometry_in places column fields))

-- a tile: of some records those whose geometry in a column is copied to the cell, in their order, each with its marks (this project's choice)
abbrev pub tile_of : List ℕ → ℕ → List ℕ → List Record → Cell → List Record
tile_of places column copied rows cell = map (marked_fields places column copied cell) (filter (λ fields. is_copied cell (geometry_in places column fields)) rows)

-- the tiles of some records, one for each cell of a cut (this project's choice)
abbrev pub tiles : List Envelope → List ℕ → ℕ → List ℕ → List Record → List (List Record)
tiles boxes places column copied rows = map (tile_of places column copied rows) (cells_of boxes)

-- the tiles of a table's records: of those after the header (this project's choice)
abbrev pub tiles_of : {T : Type 0} → List Envelope → List (ColumnDef T) → ℕ → List ℕ → List Record → List (List Record)
tiles_of boxes columns column copied records = tiles boxes (places_in (header_of records) columns) column copied (drop 1 records)

-- whether a geometry is copied to the cell of a number; there is no cell behind those of the boxes
abbrev pub is_copied_to : List Envelope → Option Geometry → ℕ → Bool
is_copied_to boxes geometry number = unwrap_or (option_map (λ cell. is_copied cell geometry) (slice_get (cells_of boxes) number)) false

-- whether an envelope meets the cell of a number
abbrev pub meets_cell : List Envelope → Option Envelope → ℕ → Bool
meets_cell boxes e number = unwrap_or (option_map (λ cell. meets cell e) (slice_get (cells_of boxes) number)) false

-- how many records a stretch has at most: as many as are asked for, and one where that is none (this project's choice)
abbrev pub size_of : ℕ → ℕ
size_of most = if most == 0 then 1 else most

-- the stretch of a number: so many records, or rows, from behind those of the stretches before it (this project's choice)
abbrev pub stretch_of : {X : Type 0} → ℕ → List X → ℕ → List X
stretch_of size rows number = take size (drop (number * size) rows)

-- how many stretches there are: so many that each record is in one, and at least one (this project's choice)
abbrev pub stretch_count : ℕ → List Record → ℕ
stretch_count size rows = (length rows - 1) / size + 1

-- the stretches of some records (this project's choice)
abbrev pub stretches : ℕ → List Record → List (List Record)
stretches size rows = map (stretch_of size rows) (range_with_len 0 (stretch_count size rows))

-- the stretches of a table's records, each with the fields that are copied: of those after the header (this project's choice)
abbrev pub stretches_of : {T : Type 0} → ℕ → List (ColumnDef T) → List ℕ → List Record → List (List Record)
stretches_of size columns copied records = map (map (copied_fields (places_in (header_of records) columns) copied)) (stretches size (drop 1 records))

-- ---- texts

-- the lines of some records (RFC 4180, 2)
abbrev pub lines_of : List Record → List ℕ
lines_of rows = flat_map line_of rows

-- what the text of a number gets where the tables are added, one to each text; those behind the last get nothing
abbrev pub rows_at : List (List Record) → ℕ → List ℕ
rows_at tables number = lines_of (slice_index_or tables number [])

-- the same with a header before each table (RFC 4180, 2)
abbrev pub table_at : Record → List (List Record) → ℕ → List ℕ
table_at header tables number = unwrap_or (option_map (λ rows. lines_of (header ∷ rows)) (slice_get tables number)) []

-- tables are written, each to the text of its number with this header, and so many records of each are counted
pub record AreWritten (old new : Texts) (header : Record) (tables : List (List Record)) (counts : List ℕ) : Type 0 where
  pub texts : Grow old new (table_at header tables)
  pub counted : counts ≡ map length tables

-- the rows of tables are added, each to the text of its number, and so many of each are counted
pub record AreAdded (old new : Texts) (tables : List (List Record)) (counts : List ℕ) : Type 0 where
  pub texts : Grow old new (rows_at tables)
  pub counted : counts ≡ map length tables

-- ---- reading

-- these records were read, each of this length
pub record WereRead {R : Type 0} (remaining : R → Option (List ℕ)) (old new : PlainRecords R) (width : ℕ) (read : List Record) : Type 0 where
  pub even : All (λ fields. length fields ≡ width) read
  pub gives : (rest : List Record) → GivesRest remaining old rest → (more : List Record) × GivesRest remaining new more × (rest ≡ read ++ more)

-- these records were read, each of this length, and they are all
pub record AreAll {R : Type 0} (remaining : R → Option (List ℕ)) (old : PlainRecords R) (width : ℕ) (read : List Record) : Type 0 where
  pub even : All (λ fields. length fields ≡ width) read
  pub all : (rest : List Record) → GivesRest remaining old rest → rest ≡ read
