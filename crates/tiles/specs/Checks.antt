-- What is checked of a whole table, of whatever number of rows: what loading checks of one of at most 100,000.
use Rattle.std.specs.Prelude.{◌==◌, if◌then◌else◌, ℕ, ℤ, not, List, [], Result, Ok, Err, drop, length, map, option_map, slice_get, unwrap_or}
use Rattle.std.specs.List.{enumerate_from}
use Rattle.table_model.specs.Loading.{GeometryReader, Record, and_then, double_key, each, header_fault, key_of, row_of, unless}
use Rattle.table_model.specs.declared.definitions.TableDef.{TableDef}
use Rattle.table_model.specs.declared.faults.LoadFault.{LoadFault}
use Rattle.table_model.specs.declared.faults.LoadFault.TheVariants as fault

-- the key of the record of this number, or the record's fault; the number of its fields is tested first, then the fields
unfoldable pub record_key : {T G : Type 0} → GeometryReader T G → TableDef T → Record → ℕ × Record → Result ℤ LoadFault
record_key geometry table header (number, fields) =
    if not (length fields == length header) then Err (fault.UnequalRecord number)
    else and_then (row_of geometry table header number fields) (λ row. Ok (key_of table.key row))

-- the keys of the records after the header, or the first fault; the records are numbered from 1
abbrev pub record_keys : {T G : Type 0} → GeometryReader T G → TableDef T → Record → List Record → Result (List ℤ) LoadFault
record_keys geometry table header records = each (map (record_key geometry table header) (enumerate_from 1 records))

-- how many rows have these keys, or the fault of two equal ones
abbrev pub counted : List ℤ → Result ℕ LoadFault
counted keys = unless (option_map fault.DoubleKey (double_key keys)) (Ok (length keys))

-- the keys of the rows that the records of a table give, or the first fault that isn't one of keys: of the columns in the header,
-- then of the records in order
unfoldable pub keys_of_table : {T G : Type 0} → GeometryReader T G → TableDef T → List Record → Result (List ℤ) LoadFault
keys_of_table geometry table records =
    let header = unwrap_or (slice_get records 0) [] in unless (header_fault table.columns header) (record_keys geometry table header (drop 1 records))

-- how many rows the records of a table give, or the first fault: of the columns in the header, then of the records in order, then
-- of keys (06-104r4, feature tables)
unfoldable pub checked : {T G : Type 0} → GeometryReader T G → TableDef T → List Record → Result ℕ LoadFault
checked geometry table records = and_then (keys_of_table geometry table records) counted
