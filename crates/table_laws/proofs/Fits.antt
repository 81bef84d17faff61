-- The value of a field is one for its column, and so is each of a row.
use Rattle.std.specs.Prelude.{◌≡◌, ◌+◌, ℕ, ℤ, zero, suc, Bool, true, false, if◌then◌else◌, not, nat_lt, ◌==◌, length, List, [], ◌∷◌, Option, Some, None, Result, Ok, Err, drop, map, ok_or, option_map, slice_get, unwrap_or, refl}
use Rattle.std.proofs.Common.{◌∙◌, ap, arith, subst, sym, zero-add}
use Rattle.std.specs.List.{enumerate_from}
use Rattle.std.specs.Str.{is_utf8}
use Rattle.std.proofs.lemmas.Bool.{and_from}
use Rattle.table_model.specs.Databases.{fits_columns, fits_type}
use Rattle.table_model.specs.Loading.{GeometryReader, Record, and_then, checked_row, each, filled_value, integer_of, is_required, row_limit, row_of, rows_of, value_of, field_under, load}
use Rattle.table_model.specs.Meanings.{Row, Table}
use Rattle.table_model.specs.declared.definitions.ColumnType.{ColumnType}
use Rattle.table_model.specs.declared.definitions.ColumnType.TheVariants as column
use Rattle.table_model.specs.declared.definitions.ColumnDef.{ColumnDef}
use Rattle.table_model.specs.declared.definitions.TableDef.{TableDef}
use Rattle.table_model.specs.declared.faults.LoadFault.{LoadFault}
use Rattle.table_model.specs.declared.faults.LoadFault.TheVariants as fault
use Rattle.table_model.specs.declared.values.Value.{Value}
use Rattle.table_model.specs.declared.values.Value.TheVariants as value
use Rattle.table_laws.specs.LoadLaws.{AreTyped, IsFilled, RowsFit, RequiredAreFilled}
use Rattle.table_laws.proofs.TableLists.{Each, each-all, each-weaker}
use Rattle.table_laws.proofs.Keys.{each-by_key}
use Rattle.table_laws.proofs.Loads.{loaded}

-- a value for a column of this type, no null where it is required
abbrev IsFor : {T G : Type 0} → ColumnType T → Bool → Value G → Type 0
IsFor kind required v = (fits_type kind v ≡ true) × (required ≡ true → v ≡ value.Null → ⊥)

-- a field that isn't empty is read as a value of the column's type, by each type's own rule, and never as null
filled-is-for : {T G : Type 0} (geometry : GeometryReader T G) (number : ℕ) (required : Bool) (kind : ColumnType T) (bytes : List ℕ) (v : Value G)
    → filled_value geometry number kind bytes ≡ Ok v → IsFor kind required v
filled-is-for {T = T} {G = G} geometry number required column.Integer bytes v e = go (integer_of bytes) e
  where
    go : (n : Option ℤ) → ◌≡◌ {A = Result (Value G) LoadFault} (ok_or (option_map value.Integer n) (fault.BadInteger number)) (Ok v) → IsFor {T = T} column.Integer required v
    go None e = cc e
    go (Some n) e = let same : value.Integer n ≡ v = cc e in subst (IsFor {T = T} column.Integer required) same (refl, λ r p. cc p)
filled-is-for {T = T} {G = G} geometry number required column.Text bytes v e = go (is_utf8 bytes) e
  where
    go : (b : Bool) → ◌≡◌ {A = Result (Value G) LoadFault} (if b then Ok (value.Text bytes) else Err (fault.NotUtf8 number)) (Ok v) → IsFor {T = T} column.Text required v
    go false e = cc e
    go true e = let same : value.Text bytes ≡ v = cc e in subst (IsFor {T = T} column.Text required) same (refl, λ r p. cc p)
filled-is-for {T = T} {G = G} geometry number required (column.Geometry kind) bytes v e = go (geometry number kind bytes) e
  where
    go : (r : Result G LoadFault) → ◌≡◌ {A = Result (Value G) LoadFault} (and_then r (λ g. Ok (value.Geometry g))) (Ok v) → IsFor (column.Geometry kind) required v
    go (Err f) e = cc e
    go (Ok g) e = let same : value.Geometry g ≡ v = cc e in subst (IsFor (column.Geometry kind) required) same (refl, λ r p. cc p)

-- an empty field is read as null only where the column takes it; others have a value of its type
value-is-for : {T G : Type 0} (geometry : GeometryReader T G) (number : ℕ) (required : Bool) (kind : ColumnType T) (bytes : List ℕ) (v : Value G)
    → value_of geometry number required kind bytes ≡ Ok v → IsFor kind required v
unfolding value_of
value-is-for {G = G} geometry number true kind [] v e = cc e
value-is-for {G = G} geometry number false kind [] v e = let same : value.Null ≡ v = cc e in subst (IsFor kind false) same (refl, λ r p. cc r)
value-is-for geometry number required kind (byte ∷ bytes) v e = filled-is-for geometry number required kind (byte ∷ bytes) v e

-- ---- lists of answers

-- the first of some answers, and the others
pub record Parts {A F : Type 0} (first : Result A F) (answers : List (Result A F)) (all : List A) : Type 0 where
  pub head : A
  pub tail : List A
  pub head_is : first ≡ Ok head
  pub tail_is : each answers ≡ Ok tail
  pub all_is : head ∷ tail ≡ all

-- all answers are there only where the first is and the others are
pub parts : {A F : Type 0} (first : Result A F) (answers : List (Result A F)) (all : List A) → each (first ∷ answers) ≡ Ok all → Parts first answers all
parts {A = A} {F = F} first answers all e = go first refl (each answers) refl e
  where
    go : (r : Result A F) → first ≡ r → (rest : Result (List A) F) → each answers ≡ rest
        → ◌≡◌ {A = Result (List A) F} (and_then r (λ x. and_then rest (λ xs. Ok (x ∷ xs)))) (Ok all) → Parts first answers all
    go (Err f) p rest q e = cc e
    go (Ok x) p (Err f) q e = cc e
    go (Ok x) p (Ok xs) q e = record { head = x; tail = xs; head_is = p; tail_is = q; all_is = cc e }

-- ---- rows

-- a row for columns, of which the first has this place
pub record IsRowFor {T G : Type 0} (table : TableDef T) (first : ℕ) (columns : List (ColumnDef T)) (row : Row G) : Type 0 where
  pub fits : fits_columns columns row ≡ true
  pub filled : (place : ℕ) (c : ColumnDef T) → slice_get columns place ≡ Some c → is_required table (first + place, c) ≡ true → slice_get row place ≡ Some value.Null → ⊥

-- field by field, the values that are read for columns are of their types, and none is null where it may not be
values-are-for : {T G : Type 0} (geometry : GeometryReader T G) (table : TableDef T) (header : Record) (number : ℕ) (fields : Record) (first : ℕ) (columns : List (ColumnDef T)) (row : Row G)
    → each (map (λ c. value_of geometry number (is_required table c) c.1.column_type (field_under header fields c.1.name)) (enumerate_from first columns)) ≡ Ok row
    → IsRowFor table first columns row
values-are-for {T = T} {G = G} geometry table header number fields first [] row e =
    let same : ◌≡◌ {A = Row G} [] row = cc e in
    subst (IsRowFor table first []) same (record { fits = refl; filled = λ place c is r null. cc is })
values-are-for {T = T} {G = G} geometry table header number fields first (c ∷ columns) row e =
    let p = parts (value_of geometry number (is_required table (first, c)) c.column_type (field_under header fields c.name))
    (map (λ c. value_of geometry number (is_required table c) c.1.column_type (field_under header fields c.1.name)) (enumerate_from (first + 1) columns)) row e in
    let h = value-is-for geometry number (is_required table (first, c)) c.column_type (field_under header fields c.name) p.head p.head_is in
    let t = values-are-for geometry table header number fields (first + 1) columns p.tail p.tail_is in
    subst (IsRowFor table first (c ∷ columns)) p.all_is (joined p.head p.tail h t)
  where
    joined : (v : Value G) (rest : Row G) → IsFor c.column_type (is_required table (first, c)) v → IsRowFor table (first + 1) columns rest → IsRowFor table first (c ∷ columns) (v ∷ rest)
    joined v rest h t = record { fits = and_from (fits_type c.column_type v) (fits_columns columns rest) h.0 t.fits; filled = filled }
      where
        at_first : first + 0 ≡ first
        at_first = omega arith

        at_next : (place : ℕ) → first + suc place ≡ first + 1 + place
        at_next place = omega arith

        filled : (place : ℕ) (d : ColumnDef T) → slice_get (c ∷ columns) place ≡ Some d → is_required table (first + place, d) ≡ true → slice_get (v ∷ rest) place ≡ Some value.Null → ⊥
        filled zero d is r null =
            let same : c ≡ d = cc is in
            let empty : v ≡ value.Null = cc null in
            h.1 (ap (λ (k : ℕ). is_required table (k, c)) (sym at_first) ∙ ap (λ (x : ColumnDef T). is_required table (first + 0, x)) same ∙ r) empty
        filled (suc place) d is r null = t.filled place d is (ap (λ (k : ℕ). is_required table (k, d)) (sym (at_next place)) ∙ r) null

-- a record is read as a row for the table: one of another length or above the limit of rows is refused
row-is-for : {T G : Type 0} (geometry : GeometryReader T G) (table : TableDef T) (header : Record) (number : ℕ) (fields : Record) (row : Row G)
    → checked_row geometry table header (number, fields) ≡ Ok row → IsRowFor table 0 table.columns row
unfolding checked_row row_of
row-is-for {G = G} geometry table header number fields row e =
    go (not (length fields == length header)) (nat_lt row_limit number) e
  where
    go : (a b : Bool) → ◌≡◌ {A = Result (Row G) LoadFault} (if a then Err (fault.UnequalRecord number) else if b then Err fault.TooManyRows else row_of geometry table header number fields) (Ok row)
        → IsRowFor table 0 table.columns row
    go true b e = cc e
    go false true e = cc e
    go false false e = values-are-for geometry table header number fields 0 table.columns row e

-- and so is each of some records
rows-are-for : {T G : Type 0} (geometry : GeometryReader T G) (table : TableDef T) (header : Record) (number : ℕ) (records : List Record) (rows : List (Row G))
    → each (map (checked_row geometry table header) (enumerate_from number records)) ≡ Ok rows → Each (IsRowFor table 0 table.columns) rows
rows-are-for {G = G} geometry table header number [] rows e =
    let same : ◌≡◌ {A = List (Row G)} [] rows = cc e in subst (Each (IsRowFor table 0 table.columns)) same tt
rows-are-for {G = G} geometry table header number (fields ∷ records) rows e =
    let p = parts (checked_row geometry table header (number, fields)) (map (checked_row geometry table header) (enumerate_from (number + 1) records)) rows e in
    subst (Each (IsRowFor table 0 table.columns)) p.all_is
    (row-is-for geometry table header number fields p.head p.head_is, rows-are-for geometry table header (number + 1) records p.tail p.tail_is)

-- the typed rows of a table's records are rows for the table
typed-are-for : {T G : Type 0} (geometry : GeometryReader T G) (table : TableDef T) (records : List Record) (typed : List (Row G))
    → AreTyped geometry table records typed → Each (IsRowFor table 0 table.columns) typed
unfolding rows_of
typed-are-for geometry table records typed e = rows-are-for geometry table (unwrap_or (slice_get records 0) []) 1 (drop 1 records) typed e

-- each loaded row
loaded-are-for : {T G : Type 0} (geometry : GeometryReader T G) (table : TableDef T) (records : List Record) (rows : Table G)
    → load geometry table records ≡ Ok rows → Each (IsRowFor table 0 table.columns) rows
loaded-are-for geometry table records rows e =
    let l = loaded geometry table records rows e in
    subst (Each (IsRowFor table 0 table.columns)) l.is
    (each-by_key (IsRowFor table 0 table.columns) table.key l.typed (typed-are-for geometry table records l.typed l.are_typed))

-- a row for the table has a value of each column's type
pub rows_fit : (T G : Type 0) → RowsFit T G
rows_fit T G geometry table records rows e =
    each-all (λ row. fits_columns table.columns row ≡ true) rows
    (each-weaker (IsRowFor table 0 table.columns) (λ row. fits_columns table.columns row ≡ true) (λ row h. h.fits) rows (loaded-are-for geometry table records rows e))

-- a row for the table has no null where NOT NULL is written or in its key
pub required_are_filled : (T G : Type 0) → RequiredAreFilled T G
required_are_filled T G geometry table records rows e =
    each-all (IsFilled table) rows (each-weaker (IsRowFor table 0 table.columns) (IsFilled table) (λ row h. filled row h) rows (loaded-are-for geometry table records rows e))
  where
    filled : (row : Row G) → IsRowFor table 0 table.columns row → IsFilled table row
    filled row h place c is r null = h.filled place c is (ap (λ (k : ℕ). is_required table (k, c)) (zero-add place) ∙ r) null
