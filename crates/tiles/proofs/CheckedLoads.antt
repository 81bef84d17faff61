-- Up to 100,000 records a check gives what loading gives.
use Rattle.std.proofs.Common.{◌≡◌, ◌∙◌, ◌+◌, ◌≤◌, ◌==◌, ap, ap₂, arith, cond, refl, sym, not, Bool, true, false, ℕ, ℤ, List, []}
use Rattle.std.proofs.Common.{◌∷◌, length, map, Option, None, Some, Result, Ok, Err}
use Rattle.std.specs.Prelude.{drop, nat_lt, option_map, slice_get, unwrap_or}
use Rattle.std.specs.List.{enumerate_from}
use Rattle.std.proofs.lemmas.Bool.{le-ltb}
use Rattle.std.proofs.lemmas.List.{length-map}
use Rattle.std.proofs.lemmas.List.Sorted.{length_permutation}
use Rattle.feature_table.specs.GeometryFields.{reading}
use Rattle.table_laws.proofs.Keys.{permuted}
use Rattle.table_model.specs.Loading.{GeometryReader, Record, and_then, by_key, checked_row, checked_rows, double_key, each}
use Rattle.table_model.specs.Loading.{header_fault, key_of, keyed_rows, load, row_limit, row_of, rows_of, unless}
use Rattle.table_model.specs.Meanings.{Row}
use Rattle.table_model.specs.declared.definitions.TableDef.{TableDef}
use Rattle.table_model.specs.declared.faults.LoadFault.{LoadFault}
use Rattle.table_model.specs.declared.faults.LoadFault.TheVariants as fault
use Rattle.tiles.specs.LoadedRows.{CheckedIsLoaded}
use Rattle.tiles.specs.Checks.{checked, counted, keys_of_table, record_key, record_keys}

-- the key of a record is that of its typed row
same_record : {T G : Type 0} (geometry : GeometryReader T G) (table : TableDef T) (header : Record) (number : ℕ)
    (fields : Record) → number ≤ row_limit
    → record_key geometry table header (number, fields) ≡ and_then (checked_row geometry table header (number, fields))
    (λ row. Ok (key_of table.key row))
unfolding record_key checked_row
same_record {G = G} geometry table header number fields within =
    go (length fields == length header) (nat_lt row_limit number) (row_of geometry table header number fields)
    (le-ltb row_limit number within)
  where
    go : (even past : Bool) (row : Result (Row G) LoadFault) → past ≡ false
        → cond (not even) (Err (fault.UnequalRecord number)) (and_then row (λ r. Ok (key_of table.key r)))
        ≡ and_then (cond (not even) (Err (fault.UnequalRecord number)) (cond past (Err fault.TooManyRows) row))
        (λ r. Ok (key_of table.key r))
    go false past row e = refl
    go true true row e = cc e
    go true false row e = refl

-- the keys of two lists of results, one before the other
both : {G : Type 0} (key : ℕ) (first : Result (Row G) LoadFault) (rest : Result (List (Row G)) LoadFault)
    → and_then (and_then first (λ row. Ok (key_of key row))) (λ x. and_then (and_then rest (λ rows. Ok (map (key_of key) rows)))
    (λ xs. Ok (x ∷ xs)))
    ≡ and_then (and_then first (λ x. and_then rest (λ xs. Ok (x ∷ xs)))) (λ rows. Ok (map (key_of key) rows))
both key (Err f) rest = refl
both key (Ok row) (Err f) = refl
both key (Ok row) (Ok rows) = refl

-- the keys of records are those of their typed rows
same_records : {T G : Type 0} (geometry : GeometryReader T G) (table : TableDef T) (header : Record) (records : List Record)
    (n : ℕ) → n + length records ≤ row_limit + 1
    → each (map (record_key geometry table header) (enumerate_from n records))
    ≡ and_then (each (map (checked_row geometry table header) (enumerate_from n records)))
    (λ rows. Ok (map (key_of table.key) rows))
same_records geometry table header [] n within = refl
same_records {G = G} geometry table header (fields ∷ records) n within =
    ap₂ (λ (first : Result ℤ LoadFault) (rest : Result (List ℤ) LoadFault). and_then first
    (λ x. and_then rest (λ xs. Ok (x ∷ xs))))
    (same_record geometry table header n fields (omega (arith, within)))
    (same_records geometry table header records (n + 1) (omega (arith, within)))
    ∙ both table.key (checked_row geometry table header (n, fields))
    (each (map (checked_row geometry table header) (enumerate_from (n + 1) records)))

-- so a check counts the rows that load, or has their fault
pub checked_is_loaded : CheckedIsLoaded
unfolding checked keys_of_table load rows_of
checked_is_loaded table records within =
    let header : Record = unwrap_or (slice_get records 0) [] in
    go table (header_fault table.columns header) (each (checked_rows reading table header (drop 1 records)))
    (record_keys reading table header (drop 1 records))
    (same_records reading table header (drop 1 records) 1 (omega (arith, within)))
  where
    last : {T G : Type 0} (table : TableDef T) (typed : List (Row G)) (double : Option ℕ)
        → unless (option_map fault.DoubleKey double) (Ok (length (map (key_of table.key) typed)))
        ≡ and_then (unless (option_map fault.DoubleKey double) (Ok (by_key table.key typed))) (λ rows. Ok (length rows))
    last table typed None = ap Ok (length-map typed (key_of table.key) ∙ sym
        (length_permutation typed (by_key table.key typed) (permuted table.key typed)))
    last table typed (Some number) = refl

    go : {T G : Type 0} (table : TableDef T) (of_header : Option LoadFault) (rows : Result (List (Row G)) LoadFault)
        (keys : Result (List ℤ) LoadFault)
        → keys ≡ and_then rows (λ typed. Ok (map (key_of table.key) typed))
        → and_then (unless of_header keys) counted ≡ and_then (unless of_header (and_then rows (keyed_rows table.key)))
        (λ typed. Ok (length typed))
    go table (Some f) rows keys is = refl
    go table None (Err f) keys is = ap (λ k. and_then k counted) is
    go table None (Ok typed) keys is = ap (λ k. and_then k counted) is
        ∙ last table typed (double_key (map (key_of table.key) typed))
