-- Tables of whatever number of rows, as their records give them.
use Rattle.std.specs.Prelude.{◌≡◌, ◌==◌, ◌≤◌, if◌then◌else◌, ℕ, not, List, [], All, Result, Ok, Err, drop, length, map, slice_get, unwrap_or}
use Rattle.std.specs.List.{enumerate_from}
use Rattle.feature_table.specs.GeometryFields.{ShapeValue, reading}
use Rattle.geometry_model.specs.Geometries.{Geometry}
use Rattle.table_laws.specs.TileLaws.{AreKeyedRows, FieldOnGrid}
use Rattle.table_model.specs.Loading.{GeometryReader, Record, and_then, each, header_fault, keyed_rows, load, row_limit, row_of, unless}
use Rattle.table_model.specs.Meanings.{Row, Table}
use Rattle.table_model.specs.declared.definitions.TableDef.{TableDef}
use Rattle.table_model.specs.declared.faults.LoadFault.{LoadFault}
use Rattle.table_model.specs.declared.faults.LoadFault.TheVariants as fault
use Rattle.tiles.specs.Checks.{checked}

-- the typed row of the record of this number, or the record's fault; the number of its fields is tested first
unfoldable pub typed_row : {T G : Type 0} → GeometryReader T G → TableDef T → Record → ℕ × Record → Result (Row G) LoadFault
typed_row geometry table header (number, fields) =
    if not (length fields == length header) then Err (fault.UnequalRecord number) else row_of geometry table header number fields

-- the typed rows of the records after the header, of which the first has this number, or the first fault
abbrev pub typed_rows : {T G : Type 0} → GeometryReader T G → TableDef T → Record → ℕ → List Record → Result (List (Row G)) LoadFault
typed_rows geometry table header number records = each (map (typed_row geometry table header) (enumerate_from number records))

-- the table that records give, however many rows it has, or the first fault: of the columns in the header, then of the records in
-- order, then of keys (06-104r4, feature tables)
unfoldable pub whole_table : {T G : Type 0} → GeometryReader T G → TableDef T → List Record → Result (Table G) LoadFault
whole_table geometry table records =
    let header = unwrap_or (slice_get records 0) [] in
    unless (header_fault table.columns header) (and_then (typed_rows geometry table header 1 (drop 1 records)) (keyed_rows table.key))

-- ---- laws

-- a check gives how many rows the whole table has, or its fault (06-104r4, feature tables)
abbrev pub CheckedIsWhole : Type 0
CheckedIsWhole = (table : TableDef ShapeValue) (records : List Record)
    → checked reading table records ≡ and_then (whole_table reading table records) (λ rows. Ok (length rows))

-- up to 100,000 records load as their whole table, or have its fault (06-104r4, feature tables)
abbrev pub LoadedIsWhole : Type 0
LoadedIsWhole = (table : TableDef ShapeValue) (records : List Record) → length (drop 1 records) ≤ row_limit
    → load reading table records ≡ whole_table reading table records

-- the rows of a whole table are rows of its definition by ascending key, and their geometries are on the grid (06-104r4, feature tables)
abbrev pub WholeTablesAreKeyed : Type 0
WholeTablesAreKeyed = (table : TableDef ShapeValue) (records : List Record) (rows : Table Geometry)
    → whole_table reading table records ≡ Ok rows → AreKeyedRows table rows × All (λ row. All FieldOnGrid row) rows
