-- Checking step by step.
use Rattle.std.proofs.Common.{◌≡◌, ◌≢◌, ◌∷◌, ◌==◌, ◌∙◌, ◌+◌, ◌<◌, ℕ, ℤ, pos, Bool, [], List, Option, Some, None, Result, Ok, Err, arith, ap, cond, refl, true, false, get_or, length, map, not, subst, sym}
use Rattle.std.specs.Prelude.{IfNone, IfSome, IsPermutation, IsSorted, int_lt, slice_index_or}
use Rattle.std.specs.Ordering.{int_cmp, int_eq, is_eq, is_lt}
use Rattle.std.specs.declared.cmp.Ordering.TheVariants as o
use Rattle.std.proofs.lemmas.Bool.{false≢true}
use Rattle.std.proofs.lemmas.Bool.Decides.{Decides-int_eq, nat_tests}
use Rattle.std.proofs.lemmas.Cmp.{int_eq_equiv}
use Rattle.std.proofs.lemmas.Map.Keys.{IsDistinct-IsPermutation}
use Rattle.std.proofs.lemmas.Map.Made.{AllPairs-from_IsDistinct, IsDistinct-from_AllPairs}
use Rattle.feature_table.proofs.AscentLemmas.{Ascend, no_double}
use Rattle.feature_table.proofs.LoadLemmas.{no_header}
use Rattle.feature_table.specs.Outcomes.{IsFailure, Loads}
use Rattle.feature_table.specs.Tables.{AreRecordsOf, records_in}
use Rattle.table_laws.proofs.Doubles.{none_is_double}
use Rattle.table_model.specs.Definitions.{lawful}
use Rattle.table_model.specs.Loading.{GeometryReader, Record, and_then, by_key, double_key, header_fault, key_of, keyed_rows, load, row_of, rows_of, unless}
use Rattle.table_model.specs.Meanings.{Row}
use Rattle.table_model.specs.declared.definitions.TableDef.{TableDef}
use Rattle.table_model.specs.declared.faults.LoadFault.{LoadFault}
use Rattle.table_model.specs.declared.faults.LoadFault.TheVariants as fault
use Rattle.tiles.specs.Checks.{checked, keys_of_table, record_key, record_keys}
use Rattle.tiles.specs.Passes.{Counts}

-- ---- a record

-- a record of another length than the header
pub unequal : {T G : Type 0} (geometry : GeometryReader T G) (table : TableDef T) (header : Record) (number : ℕ) (fields : Record) → length fields ≢ length header
    → record_key geometry table header (number, fields) ≡ Err (fault.UnequalRecord number)
unfolding record_key
unequal geometry table header number fields differ = go (length fields == length header) refl
  where
    go : (b : Bool) → (length fields == length header) ≡ b
        → cond (not b) (Err (fault.UnequalRecord number)) (and_then (row_of geometry table header number fields) (λ row. Ok (key_of table.key row))) ≡ Err (fault.UnequalRecord number)
    go true e = let same : length fields ≡ length header = grind (arith, nat_tests) in absurd (differ same)
    go false e = refl

-- a record as long as the header
pub equal : {T G : Type 0} (geometry : GeometryReader T G) (table : TableDef T) (header : Record) (number : ℕ) (fields : Record) (answer : Result (Row G) LoadFault)
    → length fields ≡ length header → row_of geometry table header number fields ≡ answer
    → record_key geometry table header (number, fields) ≡ and_then answer (λ row. Ok (key_of table.key row))
unfolding record_key
equal geometry table header number fields answer same is =
    let fits : (length fields == length header) ≡ true = grind (arith, nat_tests) in rw (fits, is) refl

-- ---- a table

-- a header of faults
pub header_fails : {T G : Type 0} (geometry : GeometryReader T G) (table : TableDef T) (header : Record) (records : List Record) (f : LoadFault) → header_fault table.columns header ≡ Some f
    → keys_of_table geometry table (header ∷ records) ≡ Err f
unfolding keys_of_table
header_fails geometry table header records f some = rw some refl

-- a header without a fault
pub header_passes : {T G : Type 0} (geometry : GeometryReader T G) (table : TableDef T) (header : Record) (records : List Record) → header_fault table.columns header ≡ None
    → keys_of_table geometry table (header ∷ records) ≡ record_keys geometry table header records
unfolding keys_of_table
header_passes geometry table header records none = rw none refl

-- a text without a record lacks the first column
pub no_records : {T G : Type 0} (geometry : GeometryReader T G) (table : TableDef T) → lawful (table ∷ []) ≡ true → keys_of_table geometry table [] ≡ Err fault.MissingColumn
unfolding keys_of_table load rows_of double_key by_key
no_records {T = T} {G = G} geometry table is = go (header_fault table.columns []) (no_header geometry table is)
  where
    go : (f : Option LoadFault) → ◌≡◌ {A = Result (List (Row G)) LoadFault} (unless f (and_then (rows_of geometry table [] []) (keyed_rows table.key))) (Err fault.MissingColumn)
        → ◌≡◌ {A = Result (List ℤ) LoadFault} (unless f (record_keys geometry table [] [])) (Err fault.MissingColumn)
    go (Some f) e = let same : f ≡ fault.MissingColumn = cc e in ap Err same
    go None e = cc e

-- ---- keys

-- the keys differ
pub counts : {T G : Type 0} (geometry : GeometryReader T G) (table : TableDef T) (records : List Record) (keys : List ℤ)
    → keys_of_table geometry table records ≡ Ok keys → double_key keys ≡ None → checked geometry table records ≡ Ok (length keys)
unfolding checked
counts geometry table records keys is none = rw (is, none) refl

-- two keys are equal
pub doubles : {T G : Type 0} (geometry : GeometryReader T G) (table : TableDef T) (records : List Record) (keys : List ℤ) (number : ℕ)
    → keys_of_table geometry table records ≡ Ok keys → double_key keys ≡ Some number → checked geometry table records ≡ Err (fault.DoubleKey number)
unfolding checked
doubles geometry table records keys number is some = rw (is, some) refl

-- a fault before the keys are looked at
pub fails : {T G : Type 0} (geometry : GeometryReader T G) (table : TableDef T) (records : List Record) (f : LoadFault)
    → keys_of_table geometry table records ≡ Err f → checked geometry table records ≡ Err f
unfolding checked
fails geometry table records f is = rw is refl

-- ---- readers

-- an answer of known bytes, or of some records
pub of_known : {X Y : Type 0} (known : Option (List ℕ)) (answer : Result X LoadFault) (view : X → Y) (meant : List Record → Result Y LoadFault)
    → ((text : List ℕ) → known ≡ Some text → Loads view answer (meant (records_in text))) → ((records : List Record) × Loads view answer (meant records))
    → (records : List Record) × AreRecordsOf known records × Loads view answer (meant records)
of_known None answer view meant given some = (some.0, tt, some.1)
of_known (Some text) answer view meant given some = (records_in text, refl, given text refl)

-- the same of a fault
pub fault_of_known : {Y : Type 0} (known : Option (List ℕ)) (f : LoadFault) (meant : List Record → Result Y LoadFault)
    → ((text : List ℕ) → known ≡ Some text → ¬ (IsFailure f) → meant (records_in text) ≡ Err f) → ((records : List Record) × (¬ (IsFailure f) → meant records ≡ Err f))
    → (records : List Record) × AreRecordsOf known records × (¬ (IsFailure f) → meant records ≡ Err f)
fault_of_known None f meant given some = (some.0, tt, some.1)
fault_of_known (Some text) f meant given some = (records_in text, refl, given text refl)

-- ---- keys that ascend

-- keys that are the same in another order, in which each is below the next
pub ascending : (keys sorted : List ℤ) → IsPermutation keys sorted → Ascend (λ (k : ℤ). k) sorted → double_key keys ≡ None
ascending keys sorted moved up = no_double (λ (k : ℤ). k) keys sorted (subst (IsPermutation keys) (same sorted) moved) up
  where
    same : (xs : List ℤ) → xs ≡ map (λ (k : ℤ). k) xs
    same [] = refl
    same (x ∷ xs) = ap (λ (ks : List ℤ). x ∷ ks) (same xs)

-- two keys of which neither is below the other
neither_below : (a b : ℤ) → int_lt a b ≡ false → is_lt (int_cmp b a) ≡ false → a ≡ b
neither_below a b e f = (Decides-int_eq a b).0 (go (int_lt a b) (int_lt b a) e f)
  where
    go : (p q : Bool) → p ≡ false → is_lt (cond q o.Less (cond p o.Greater o.Equal)) ≡ false → is_eq (cond p o.Less (cond q o.Greater o.Equal)) ≡ true
    go true q e f = absurd (false≢true (sym e))
    go false true e f = absurd (false≢true (sym f))
    go false false e f = refl

-- sorted keys of which one isn't below the next: two are equal
pub not_ascending : (keys sorted : List ℤ) → IsPermutation keys sorted → IsSorted int_cmp sorted → (k : ℕ) → k + 1 < length sorted
    → ((d : ℤ) → false ≡ int_lt (slice_index_or sorted k d) (slice_index_or sorted (k + 1) d)) → (number : ℕ) × (double_key keys ≡ Some number)
not_ascending keys sorted moved up k within equal = go (double_key keys) refl
  where
    same : double_key keys ≡ None → get_or sorted k (pos 0) ≡ get_or sorted (k + 1) (pos 0) → ⊥
    same none e =
        let apart = IsDistinct-from_AllPairs Decides-int_eq keys ((none_is_double keys).0 none) in
        let still = AllPairs-from_IsDistinct Decides-int_eq sorted (IsDistinct-IsPermutation int_eq int_eq_equiv.symm keys sorted moved apart) in
        still k (k + 1) (pos 0) (omega arith) within e

    go : (found : Option ℕ) → double_key keys ≡ found → (number : ℕ) × (double_key keys ≡ Some number)
    go (Some number) e = (number, e)
    go None e = absurd (same e (neither_below (get_or sorted k (pos 0)) (get_or sorted (k + 1) (pos 0)) (sym (equal (pos 0))) (up k (pos 0) (omega arith) within)))

-- keys of which a count is known exactly if they differ
pub seen_to_differ : {T G : Type 0} (geometry : GeometryReader T G) (table : TableDef T) (records : List Record) (keys : List ℤ) (seen : Option ℕ)
    → keys_of_table geometry table records ≡ Ok keys → IfSome seen (λ count. count ≡ length keys) → IfSome seen (λ _. double_key keys ≡ None)
    → IfNone seen ((number : ℕ) × (double_key keys ≡ Some number)) → Counts (Ok seen) (keys_of_table geometry table records)
unfolding checked
seen_to_differ geometry table records keys (Some count) is same differ double = counts geometry table records keys is differ ∙ ap Ok (sym same)
seen_to_differ geometry table records keys None is same differ double = (double.0, doubles geometry table records keys double.0 is double.1)
