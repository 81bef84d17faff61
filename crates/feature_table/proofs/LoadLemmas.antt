-- Loading step by step.
use Rattle.std.proofs.Common.{◌≡◌, ◌∷◌, [], List, Some, None, Ok, Err, refl, true, slice_get, Bool, false, ◌&&◌, ℕ, length, nat_le, zero, suc}
use Rattle.std.proofs.lemmas.Bool.{false≢true}
use Rattle.table_model.specs.Definitions.{column_names, lawful, lawful_table, may_be_key, names_differ}
use Rattle.table_model.specs.Loading.{GeometryReader, Record, header_fault, keyed_rows, load, rows_of}
use Rattle.table_model.specs.Meanings.{Row}
use Rattle.table_model.specs.declared.definitions.ColumnDef.{ColumnDef}
use Rattle.table_model.specs.declared.definitions.TableDef.{TableDef}
use Rattle.table_model.specs.declared.faults.LoadFault.{LoadFault}
use Rattle.table_model.specs.declared.faults.LoadFault.TheVariants as fault

-- a header of faults
pub header_fails : {T G : Type 0} (geometry : GeometryReader T G) (table : TableDef T) (header : Record) (records : List Record) (f : LoadFault) → header_fault table.columns header ≡ Some f
    → load geometry table (header ∷ records) ≡ Err f
unfolding load
header_fails geometry table header records f some = rw some refl

-- a record of faults
pub rows_fail : {T G : Type 0} (geometry : GeometryReader T G) (table : TableDef T) (header : Record) (records : List Record) (f : LoadFault) → header_fault table.columns header ≡ None
    → rows_of geometry table header records ≡ Err f → load geometry table (header ∷ records) ≡ Err f
unfolding load
rows_fail geometry table header records f none some = rw (none, some) refl

-- rows without fault
pub rows_pass : {T G : Type 0} (geometry : GeometryReader T G) (table : TableDef T) (header : Record) (records : List Record) (rows : List (Row G)) → header_fault table.columns header ≡ None
    → rows_of geometry table header records ≡ Ok rows → load geometry table (header ∷ records) ≡ keyed_rows table.key rows
unfolding load
rows_pass geometry table header records rows none all = rw (none, all) refl

first-true : (b : Bool) → (b && true) ≡ true → b ≡ true
first-true true h = refl
first-true false h = absurd (false≢true h)

last-true : (a b c : Bool) → (a && (b && c)) ≡ true → c ≡ true
last-true true true c h = h
last-true true false c h = absurd (false≢true h)
last-true false b c h = absurd (false≢true h)

-- a lawful schema of one table has that table lawful
alone : {T : Type 0} (table : TableDef T) → lawful (table ∷ []) ≡ true → lawful_table table ≡ true
unfolding lawful
alone table is = first-true (lawful_table table) is

-- a table with a key has a column, and an empty header lacks it
keyed_columns : {T : Type 0} (columns : List (ColumnDef T)) (key : ℕ) → may_be_key (slice_get columns key) ≡ true → header_fault columns [] ≡ Some fault.MissingColumn
unfolding header_fault
keyed_columns [] zero h = absurd (false≢true h)
keyed_columns [] (suc key) h = absurd (false≢true h)
keyed_columns (c ∷ columns) key h = refl

-- a text without a record lacks the first column
pub no_header : {T G : Type 0} (geometry : GeometryReader T G) (table : TableDef T) → lawful (table ∷ []) ≡ true → load geometry table [] ≡ Err fault.MissingColumn
unfolding load
no_header geometry table is =
    let columns = table.columns in
    let key = last-true (nat_le (length columns) 32) (names_differ (column_names columns)) (may_be_key (slice_get columns table.key)) (alone table is) in
    rw (keyed_columns columns table.key key) refl
