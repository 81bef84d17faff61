-- A table that loads: its typed rows, of which no two have one key, by their keys.
use Rattle.std.specs.Prelude.{◌≡◌, ◌<ℤ◌, ℕ, List, [], Option, Some, None, Result, Ok, Err, drop, map, option_map, slice_get, unwrap_or, refl, IsPermutation}
use Rattle.std.proofs.Common.{subst}
use Rattle.table_model.specs.Loading.{GeometryReader, Record, and_then, by_key, double_key, header_fault, key_of, keyed_rows, load, rows_of, unless}
use Rattle.table_model.specs.Meanings.{Row, Table}
use Rattle.table_model.specs.declared.definitions.TableDef.{TableDef}
use Rattle.table_model.specs.declared.faults.LoadFault.{LoadFault}
use Rattle.table_model.specs.declared.faults.LoadFault.TheVariants as fault
use Rattle.table_laws.specs.LoadLaws.{Ascends, AreTyped, RowsAscend, RowsArePermuted}
use Rattle.table_laws.proofs.TableLists.{pairs-all}
use Rattle.table_laws.proofs.Keys.{permuted, rises}

pub record Loaded {T G : Type 0} (geometry : GeometryReader T G) (table : TableDef T) (records : List Record) (rows : Table G) : Type 0 where
  pub typed : List (Row G)
  pub are_typed : AreTyped geometry table records typed
  pub differ : double_key (map (key_of table.key) typed) ≡ None
  pub is : by_key table.key typed ≡ rows

-- a table loads only where its records are typed rows of which no two have one key, and then it is those rows by key
pub loaded : {T G : Type 0} (geometry : GeometryReader T G) (table : TableDef T) (records : List Record) (rows : Table G)
    → load geometry table records ≡ Ok rows → Loaded geometry table records rows
unfolding load
loaded {G = G} geometry table records rows e =
    go (header_fault table.columns (unwrap_or (slice_get records 0) [])) (rows_of geometry table (unwrap_or (slice_get records 0) []) (drop 1 records)) refl e
  where
    last : (typed : List (Row G)) → AreTyped geometry table records typed → (d : Option ℕ) → double_key (map (key_of table.key) typed) ≡ d
        → ◌≡◌ {A = Result (List (Row G)) LoadFault} (unless (option_map fault.DoubleKey d) (Ok (by_key table.key typed))) (Ok rows) → Loaded geometry table records rows
    last typed is None none e = record { typed = typed; are_typed = is; differ = none; is = cc e }
    last typed is (Some n) some e = cc e

    go : (f : Option LoadFault) (r : Result (List (Row G)) LoadFault) → rows_of geometry table (unwrap_or (slice_get records 0) []) (drop 1 records) ≡ r
        → ◌≡◌ {A = Result (List (Row G)) LoadFault} (unless f (and_then r (keyed_rows table.key))) (Ok rows) → Loaded geometry table records rows
    go (Some f) r is e = cc e
    go None (Err f) is e = cc e
    go None (Ok typed) is e = last typed is (double_key (map (key_of table.key) typed)) refl e

-- the typed rows differ in their keys and are put by key, so the keys rise
pub ascend : (T G : Type 0) → RowsAscend T G
ascend T G geometry table records rows e =
    let l = loaded geometry table records rows e in
    subst (Ascends table.key) l.is (pairs-all (λ a b. key_of table.key a <ℤ key_of table.key b) (by_key table.key l.typed) (rises table.key l.typed l.differ))

-- the rows are the typed ones put by key, which only moves them
pub are_permuted : (T G : Type 0) → RowsArePermuted T G
are_permuted T G geometry table records rows e =
    let l = loaded geometry table records rows e in
    (l.typed, l.are_typed, subst (IsPermutation l.typed) l.is (permuted table.key l.typed))
