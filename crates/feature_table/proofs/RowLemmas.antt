-- The value at a place of a row.
use Rattle.std.proofs.Common.{◌≡◌, ◌≢◌, ◌≤◌, ◌==◌, ◌∙◌, ◌+◌, ◌<◌, ℕ, List, [], Result, Err, true, false, eq-eqb, ne_eqb, nat_lt, refl, ap, arith, get_or, length, map, sym}
use Rattle.std.proofs.lemmas.Bool.Decides.{nat_tests}
use Rattle.std.proofs.lemmas.List.{get_or-map, length-map}
use Rattle.std.proofs.lemmas.List.FromFn.{get_or-enumerate_from, length-enumerate_from}
use Rattle.std.specs.List.{enumerate_from}
use Rattle.table_model.specs.Loading.{GeometryReader, Record, field_under, is_required, checked_row, place_in, row_limit, row_of, value_of, values_of}
use Rattle.table_model.specs.declared.definitions.ColumnDef.{ColumnDef}
use Rattle.table_model.specs.declared.definitions.TableDef.{TableDef}
use Rattle.table_model.specs.declared.faults.LoadFault.{LoadFault}
use Rattle.table_model.specs.declared.faults.LoadFault.TheVariants as fault
use Rattle.table_model.specs.declared.values.Value.{Value}

-- as many values as columns
pub length-values : {T G : Type 0} (geometry : GeometryReader T G) (table : TableDef T) (header : Record) (number : ℕ) (fields : Record)
    → length (values_of geometry table header number fields) ≡ length table.columns
length-values geometry table header number fields = simp (length-map, length-enumerate_from)

-- the value in the column at a place, whose field is at this place of the record
pub value_at : {T G : Type 0} (geometry : GeometryReader T G) (table : TableDef T) (header : Record) (number : ℕ) (fields : Record)
    (places : List ℕ) (i : ℕ) (column : ColumnDef T) (d : Result (Value G) LoadFault) → i < length table.columns
    → places ≡ map (λ c. place_in header c.name) table.columns → column ≡ get_or table.columns i column
    → get_or (values_of geometry table header number fields) i d
    ≡ value_of geometry number (is_required table (i, column)) column.column_type (get_or fields (get_or places i 0) [])
value_at {T = T} geometry table header number fields places i column d within is here =
    let columns = table.columns in
    let value = λ (c : ℕ × ColumnDef T). value_of geometry number (is_required table c) c.1.column_type (field_under header fields c.1.name) in
    let item = get_or-enumerate_from 0 columns i (0, column) within in
    let n : 0 + i ≡ i = omega arith in
    let pair : get_or (enumerate_from 0 columns) i (0, column) ≡ (i, column) = rw (n, ← here) at item in
    let size = length-enumerate_from 0 columns in
    let place : get_or places i 0 ≡ place_in header column.name =
    ap (λ (p : List ℕ). get_or p i 0) is ∙ get_or-map (λ (c : ColumnDef T). place_in header c.name) columns i column 0 within
    ∙ ap (λ (c : ColumnDef T). place_in header c.name) (sym here) in
    get_or-map value (enumerate_from 0 columns) i (0, column) d (omega (arith, size)) ∙ ap value pair
    ∙ ap (λ p. value_of geometry number (is_required table (i, column)) column.column_type (get_or fields p [])) (sym place)

-- a record of another length, one too many, and any other
pub unequal_row : {T G : Type 0} (geometry : GeometryReader T G) (table : TableDef T) (header : Record) (number : ℕ) (fields : Record)
    → length fields ≢ length header → checked_row geometry table header (number, fields) ≡ Err (fault.UnequalRecord number)
unfolding checked_row
unequal_row geometry table header number fields other = let no : (length fields == length header) ≡ false = ne_eqb _ _ other in rw no refl

-- a record behind the most rows that a table may have
pub late_row : {T G : Type 0} (geometry : GeometryReader T G) (table : TableDef T) (header : Record) (number : ℕ) (fields : Record)
    → length fields ≡ length header → row_limit < number → checked_row geometry table header (number, fields) ≡ Err fault.TooManyRows
unfolding checked_row
late_row geometry table header number fields same late =
    let yes : (length fields == length header) ≡ true = eq-eqb _ _ same in
    let over : nat_lt 100000 number ≡ true = grind (arith, nat_tests) in
    rw (yes, over) refl

-- any other record is read as a row
pub plain_row : {T G : Type 0} (geometry : GeometryReader T G) (table : TableDef T) (header : Record) (number : ℕ) (fields : Record)
    → length fields ≡ length header → number ≤ row_limit → checked_row geometry table header (number, fields) ≡ row_of geometry table header number fields
unfolding checked_row
plain_row geometry table header number fields same few =
    let yes : (length fields == length header) ≡ true = eq-eqb _ _ same in
    let over : nat_lt 100000 number ≡ false = grind (arith, nat_tests) in
    rw (yes, over) refl
