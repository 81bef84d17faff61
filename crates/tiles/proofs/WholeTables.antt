-- Whole tables: what a check says of them, and what their rows are.
use Rattle.std.proofs.Common.{◌≡◌, ◌∙◌, ◌+◌, ◌≤◌, ◌<ℤ◌, ◌==◌, ap, ap₂, arith, cond, refl, sym, subst, not, Bool, true, false, ℕ}
use Rattle.std.proofs.Common.{ℤ}
use Rattle.std.proofs.Common.{List, [], ◌∷◌, length, map, Option, None, Some, Result, Ok, Err, eqb-true}
use Rattle.std.specs.Prelude.{All, drop, nat_lt, option_map, slice_get, unwrap_or}
use Rattle.std.specs.List.{AllPairs, AllZip, enumerate_from}
use Rattle.std.proofs.lemmas.Bool.{le-ltb}
use Rattle.std.proofs.lemmas.List.{length-map}
use Rattle.std.proofs.lemmas.List.Elements.{All-head}
use Rattle.std.proofs.lemmas.List.Sorted.{length_permutation}
use Rattle.feature_table.specs.GeometryFields.{reading}
use Rattle.geometry_model.specs.Geometries.{Geometry}
use Rattle.table_laws.proofs.Fits.{parts}
use Rattle.table_laws.proofs.Keys.{each-by_key, permuted, rises}
use Rattle.table_laws.proofs.ReadGeometries.{loaded_are_rows}
use Rattle.table_laws.proofs.TableLists.{Each, each-all, pairs-all}
use Rattle.table_laws.specs.TileLaws.{AreKeyedRows, FieldOnGrid}
use Rattle.table_model.specs.FeatureTables.{IsRow, TakesValid}
use Rattle.table_model.specs.GeometryColumns.{ColumnShape}
use Rattle.table_model.specs.Loading.{GeometryReader, Record, and_then, by_key, checked_row, double_key, each, header_fault}
use Rattle.table_model.specs.Loading.{is_required}
use Rattle.table_model.specs.Loading.{field_under, key_of, keyed_rows, load, row_limit, row_of, rows_of, unless, value_of}
use Rattle.table_model.specs.Meanings.{Row, Table}
use Rattle.table_model.specs.declared.definitions.ColumnDef.{ColumnDef}
use Rattle.table_model.specs.declared.definitions.TableDef.{TableDef}
use Rattle.table_model.specs.declared.faults.LoadFault.{LoadFault}
use Rattle.table_model.specs.declared.faults.LoadFault.TheVariants as fault
use Rattle.table_model.specs.declared.values.Value.{Value}
use Rattle.tiles.proofs.GridLemmas.{loaded_are_on_grid}
use Rattle.tiles.proofs.TileRows.{alike}
use Rattle.tiles.specs.Checks.{checked, counted, keys_of_table, record_key, record_keys}
use Rattle.tiles.specs.WholeTables.{CheckedIsWhole, LoadedIsWhole, WholeTablesAreKeyed, typed_row, typed_rows, whole_table}

-- ---- checks

-- the key of a record is that of its typed row
same_record : {T G : Type 0} (geometry : GeometryReader T G) (table : TableDef T) (header : Record) (number : ℕ)
    (fields : Record)
    → record_key geometry table header (number, fields)
    ≡ and_then (typed_row geometry table header (number, fields)) (λ row. Ok (key_of table.key row))
unfolding record_key typed_row
same_record {G = G} geometry table header number fields =
    go (length fields == length header) (row_of geometry table header number fields)
  where
    go : (even : Bool) (row : Result (Row G) LoadFault)
        → cond (not even) (Err (fault.UnequalRecord number)) (and_then row (λ r. Ok (key_of table.key r)))
        ≡ and_then (cond (not even) (Err (fault.UnequalRecord number)) row) (λ r. Ok (key_of table.key r))
    go false row = refl
    go true row = refl

-- the keys of two lists of results, one before the other
both : {G : Type 0} (key : ℕ) (first : Result (Row G) LoadFault) (rest : Result (List (Row G)) LoadFault)
    → and_then (and_then first (λ row. Ok (key_of key row))) (λ x. and_then (and_then rest (λ rows. Ok (map (key_of key) rows)))
    (λ xs. Ok (x ∷ xs)))
    ≡ and_then (and_then first (λ x. and_then rest (λ xs. Ok (x ∷ xs)))) (λ rows. Ok (map (key_of key) rows))
both key (Err f) rest = refl
both key (Ok row) (Err f) = refl
both key (Ok row) (Ok rows) = refl

-- the keys of records are those of their typed rows
same_records : {T G : Type 0} (geometry : GeometryReader T G) (table : TableDef T) (header : Record) (records : List Record)
    (n : ℕ)
    → each (map (record_key geometry table header) (enumerate_from n records))
    ≡ and_then (typed_rows geometry table header n records) (λ rows. Ok (map (key_of table.key) rows))
same_records geometry table header [] n = refl
same_records {G = G} geometry table header (fields ∷ records) n =
    ap₂ (λ (first : Result ℤ LoadFault) (rest : Result (List ℤ) LoadFault). and_then first
    (λ x. and_then rest (λ xs. Ok (x ∷ xs))))
    (same_record geometry table header n fields) (same_records geometry table header records (n + 1))
    ∙ both table.key (typed_row geometry table header (n, fields)) (typed_rows geometry table header (n + 1) records)

-- so a check counts the rows of the whole table, or has its fault
pub checked_is_whole : CheckedIsWhole
unfolding checked keys_of_table whole_table
checked_is_whole table records =
    let header : Record = unwrap_or (slice_get records 0) [] in
    go table (header_fault table.columns header) (typed_rows reading table header 1 (drop 1 records))
    (record_keys reading table header (drop 1 records)) (same_records reading table header (drop 1 records) 1)
  where
    last : {T G : Type 0} (table : TableDef T) (typed : List (Row G)) (double : Option ℕ)
        → unless (option_map fault.DoubleKey double) (Ok (length (map (key_of table.key) typed)))
        ≡ and_then (unless (option_map fault.DoubleKey double) (Ok (by_key table.key typed))) (λ rows. Ok (length rows))
    last table typed None = ap Ok (length-map typed (key_of table.key) ∙ sym
        (length_permutation typed (by_key table.key typed) (permuted table.key typed)))
    last table typed (Some number) = refl

    go : {T G : Type 0} (table : TableDef T) (of_header : Option LoadFault) (rows : Result (List (Row G)) LoadFault)
        (keys : Result (List ℤ) LoadFault)
        → keys ≡ and_then rows (λ typed. Ok (map (key_of table.key) typed))
        → and_then (unless of_header keys) counted ≡ and_then (unless of_header (and_then rows (keyed_rows table.key)))
        (λ typed. Ok (length typed))
    go table (Some f) rows keys is = refl
    go table None (Err f) keys is = ap (λ k. and_then k counted) is
    go table None (Ok typed) keys is = ap (λ k. and_then k counted) is
        ∙ last table typed (double_key (map (key_of table.key) typed))

-- ---- loading

-- within the limit a record is read as its typed row
within_limit : {T G : Type 0} (geometry : GeometryReader T G) (table : TableDef T) (header : Record) (records : List Record)
    (n : ℕ)
    → n + length records ≤ row_limit + 1
    → each (map (checked_row geometry table header) (enumerate_from n records)) ≡ typed_rows geometry table header n records
unfolding checked_row typed_row
within_limit geometry table header [] n within = refl
within_limit {G = G} geometry table header (fields ∷ records) n within =
    let few : nat_lt row_limit n ≡ false = le-ltb row_limit n (omega (arith, within)) in
    ap₂ (λ (first : Result (Row G) LoadFault) (rest : Result (List (Row G)) LoadFault). and_then first
    (λ x. and_then rest (λ xs. Ok (x ∷ xs))))
    (ap (λ b. cond (not (length fields == length header)) (Err (fault.UnequalRecord n))
    (cond b (Err fault.TooManyRows) (row_of geometry table header n fields))) few)
    (within_limit geometry table header records (n + 1) (omega (arith, within)))

pub loaded_is_whole : LoadedIsWhole
unfolding load rows_of whole_table
loaded_is_whole table records within =
    let header : Record = unwrap_or (slice_get records 0) [] in
    ap (λ (r : Result (List (Row Geometry)) LoadFault). unless (header_fault table.columns header)
    (and_then r (keyed_rows table.key)))
    (within_limit reading table header (drop 1 records) 1 (omega (arith, within)))

-- ---- rows

-- a whole table: its typed rows, of which no two have one key, by their keys
pub record Whole (table : TableDef ColumnShape) (records : List Record) (rows : Table Geometry) : Type 0 where
  pub header : header_fault table.columns (unwrap_or (slice_get records 0) []) ≡ None
  pub typed : List (Row Geometry)
  pub are_typed : typed_rows reading table (unwrap_or (slice_get records 0) []) 1 (drop 1 records) ≡ Ok typed
  pub differ : double_key (map (key_of table.key) typed) ≡ None
  pub is : by_key table.key typed ≡ rows

pub whole_of : (table : TableDef ColumnShape) (records : List Record) (rows : Table Geometry)
    → whole_table reading table records ≡ Ok rows → Whole table records rows
unfolding whole_table
whole_of table records rows e =
    go (header_fault table.columns (unwrap_or (slice_get records 0) []))
    (typed_rows reading table (unwrap_or (slice_get records 0) []) 1 (drop 1 records)) refl refl e
  where
    last : header_fault table.columns (unwrap_or (slice_get records 0) []) ≡ None → (typed : List (Row Geometry))
        → typed_rows reading table (unwrap_or (slice_get records 0) []) 1 (drop 1 records) ≡ Ok typed
        → (d : Option ℕ) → double_key (map (key_of table.key) typed) ≡ d
        → ◌≡◌ {A = Result (List (Row Geometry)) LoadFault} (unless (option_map fault.DoubleKey d) (Ok (by_key table.key typed)))
        (Ok rows) → Whole table records rows
    last header typed is None none e = record { header = header; typed = typed; are_typed = is; differ = none; is = cc e }
    last header typed is (Some n) some e = cc e

    go : (f : Option LoadFault) (r : Result (List (Row Geometry)) LoadFault)
        → header_fault table.columns (unwrap_or (slice_get records 0) []) ≡ f
        → typed_rows reading table (unwrap_or (slice_get records 0) []) 1 (drop 1 records) ≡ r
        → ◌≡◌ {A = Result (List (Row Geometry)) LoadFault} (unless f (and_then r (keyed_rows table.key))) (Ok rows)
        → Whole table records rows
    go (Some f) r header is e = cc e
    go None (Err f) header is e = cc e
    go None (Ok typed) header is e = last header typed is (double_key (map (key_of table.key) typed)) refl e

-- a record and its typed row, whatever the record's number
pub record IsTyped (table : TableDef ColumnShape) (header fields : Record) (row : Row Geometry) : Type 0 where
  pub even : length fields ≡ length header
  pub number : ℕ
  pub is : row_of reading table header number fields ≡ Ok row

-- of typed rows each is that of its record
pub each_typed : (table : TableDef ColumnShape) (header : Record) (records : List Record) (n : ℕ) (typed : List (Row Geometry))
    → typed_rows reading table header n records ≡ Ok typed → AllZip (IsTyped table header) records typed
unfolding typed_row
each_typed table header [] n [] e = tt
each_typed table header [] n (row ∷ typed) e = cc e
each_typed table header (fields ∷ records) n typed e =
    let p = parts (typed_row reading table header (n, fields))
    (map (typed_row reading table header) (enumerate_from (n + 1) records))
    typed e in
    subst (AllZip (IsTyped table header) (fields ∷ records)) p.all_is
    (one p.head (length fields == length header) refl p.head_is, each_typed table header records (n + 1) p.tail p.tail_is)
  where
    one : (row : Row Geometry) (b : Bool) → (length fields == length header) ≡ b
        → ◌≡◌ {A = Result (Row Geometry) LoadFault}
        (cond (not b) (Err (fault.UnequalRecord n)) (row_of reading table header n fields))
        (Ok row) → IsTyped table header fields row
    one row false is e = cc e
    one row true is e = record { even = eqb-true (length fields) (length header) is; number = n; is = e }

-- a record is read alike under each number
row_alike : (table : TableDef ColumnShape) (header fields : Record) (n m : ℕ) (row : Row Geometry)
    → row_of reading table header n fields ≡ Ok row → row_of reading table header m fields ≡ Ok row
unfolding row_of
row_alike table header fields n m row e = go table.columns 0 row e
  where
    value : ℕ → ℕ × ColumnDef ColumnShape → Result (Value Geometry) LoadFault
    value k c = value_of reading k (is_required table c) c.1.column_type (field_under header fields c.1.name)

    go : (columns : List (ColumnDef ColumnShape)) (i : ℕ) (row : Row Geometry)
        → each (map (value n) (enumerate_from i columns)) ≡ Ok row
        → each (map (value m) (enumerate_from i columns)) ≡ Ok row
    go [] i row e = e
    go (c ∷ columns) i row e =
        let p = parts (value n (i, c)) (map (value n) (enumerate_from (i + 1) columns)) row e in
        let required = is_required table (i, c) in
        ap₂ (λ (a : Result (Value Geometry) LoadFault) (b : Result (Row Geometry) LoadFault). and_then a
        (λ x. and_then b (λ xs. Ok (x ∷ xs))))
        (alike n m required required c.column_type (field_under header fields c.name) p.head (λ h. h) p.head_is)
        (go columns (i + 1) p.tail p.tail_is)
        ∙ ap Ok p.all_is

-- so a record alone loads as its typed row
alone : (table : TableDef ColumnShape) (header fields : Record) (row : Row Geometry) → header_fault table.columns header ≡ None
    → IsTyped table header fields row → load reading table (header ∷ fields ∷ []) ≡ Ok (row ∷ [])
unfolding load rows_of checked_row double_key by_key
alone table header fields row none is =
    let even : (length fields == length header) ≡ true = same (length header) is.even in
    ap (λ f. unless f (and_then (each (checked_row reading table header (1, fields) ∷ [])) (keyed_rows table.key))) none
    ∙ ap (λ b. and_then (and_then (cond (not b) (Err (fault.UnequalRecord 1)) (row_of reading table header 1 fields))
    (λ x. Ok (x ∷ []))) (keyed_rows table.key)) even
    ∙ ap (λ r. and_then (and_then r (λ x. Ok (x ∷ []))) (keyed_rows table.key))
    (row_alike table header fields is.number 1 row is.is)
  where
    same : (n : ℕ) → length fields ≡ n → (length fields == n) ≡ true
    same n e = subst (λ k. (length fields == k) ≡ true) e (itself (length fields))
      where
        itself : (k : ℕ) → (k == k) ≡ true
        itself k = grind arith

-- and its row is one of the definition, on the grid
pub typed_is_row : (table : TableDef ColumnShape) (header fields : Record) (row : Row Geometry)
    → header_fault table.columns header ≡ None
    → IsTyped table header fields row → IsRow TakesValid table row × All FieldOnGrid row
typed_is_row table header fields row none is =
    let loads = alone table header fields row none is in
    let are = loaded_are_rows table (header ∷ fields ∷ []) (row ∷ []) loads in (
      All-head (IsRow TakesValid table) row [] are.each,
      All-head (λ r. All FieldOnGrid r) row [] (loaded_are_on_grid table (header ∷ fields ∷ []) (row ∷ []) loads),
    )

-- each typed row
each_is_row : (table : TableDef ColumnShape) (header : Record) (records : List Record) (typed : List (Row Geometry))
    → header_fault table.columns header ≡ None → AllZip (IsTyped table header) records typed
    → Each (λ row. IsRow TakesValid table row × All FieldOnGrid row) typed
each_is_row table header [] [] none are = tt
each_is_row table header [] (row ∷ typed) none are = absurd are
each_is_row table header (fields ∷ records) [] none are = absurd are
each_is_row table header (fields ∷ records) (row ∷ typed) none are =
    (typed_is_row table header fields row none are.0, each_is_row table header records typed none are.1)

pub whole_tables_are_keyed : WholeTablesAreKeyed
whole_tables_are_keyed table records rows e =
    let w = whole_of table records rows e in
    let header : Record = unwrap_or (slice_get records 0) [] in
    let each = each_is_row table header (drop 1 records) w.typed w.header
    (each_typed table header (drop 1 records) 1 w.typed w.are_typed) in
    let sorted = subst (Each (λ row. IsRow TakesValid table row × All FieldOnGrid row)) w.is
    (each-by_key (λ row. IsRow TakesValid table row × All FieldOnGrid row) table.key w.typed each) in (
      record {
        each = each-all (IsRow TakesValid table) rows (first rows sorted);
        ascend = subst (λ l. AllPairs (λ a b. key_of table.key a <ℤ key_of table.key b) l) w.is
            (pairs-all (λ a b. key_of table.key a <ℤ key_of table.key b) (by_key table.key w.typed)
            (rises table.key w.typed w.differ));
      },
      each-all (λ row. All FieldOnGrid row) rows (second rows sorted),
    )
  where
    first : (l : Table Geometry) → Each (λ row. IsRow TakesValid table row × All FieldOnGrid row) l
        → Each (IsRow TakesValid table) l
    first [] h = tt
    first (x ∷ xs) h = (h.0.0, first xs h.1)

    second : (l : Table Geometry) → Each (λ row. IsRow TakesValid table row × All FieldOnGrid row) l
        → Each (λ row. All FieldOnGrid row) l
    second [] h = tt
    second (x ∷ xs) h = (h.0.1, second xs h.1)
