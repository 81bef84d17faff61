-- A table that loads has the rows of a table.
use Rattle.std.specs.Prelude.{◌≡◌, ◌≢◌, ◌≤◌, ◌+◌, ℕ, ℤ, zero, suc, Bool, true, false, if◌then◌else◌, not, nat_lt, ◌==◌, length, List, [], ◌∷◌, Option, Some, None, Result, Ok, Err, drop, map, ok_or, option_map, slice_get, unwrap_or, zip, refl}
use Rattle.std.proofs.Common.{◌∙◌, ap, arith, subst, sym, zero-add}
use Rattle.std.proofs.lemmas.Bool.{and_parts, ltb-false}
use Rattle.std.specs.List.{enumerate_from}
use Rattle.std.specs.Str.{is_utf8}
use Rattle.std.specs.Str.Parse.{signed_digits_value}
use Rattle.table_model.specs.Databases.{at_table, load_tables}
use Rattle.table_model.specs.FeatureTables.{AreRows, IsRow, IsValueFor, Takes}
use Rattle.table_model.specs.Loading.{GeometryReader, Record, and_then, by_key, checked_row, each, filled_value, fits_64_bits, insert_by_key, integer_of, is_number, is_required, load, number_in, row_limit, row_of, rows_of, trimmed, value_of, field_under}
use Rattle.table_model.specs.Meanings.{Row, Table}
use Rattle.table_model.specs.declared.definitions.ColumnType.{ColumnType}
use Rattle.table_model.specs.declared.definitions.ColumnType.TheVariants as column
use Rattle.table_model.specs.declared.definitions.ColumnDef.{ColumnDef}
use Rattle.table_model.specs.declared.definitions.TableDef.{TableDef}
use Rattle.table_model.specs.declared.faults.LoadFault.{LoadFault}
use Rattle.table_model.specs.declared.faults.LoadFault.TheVariants as fault
use Rattle.table_model.specs.declared.values.Value.{Value}
use Rattle.table_model.specs.declared.values.Value.TheVariants as value
use Rattle.table_laws.specs.FeatureTableLaws.{LoadsDatabase, LoadsRows}
use Rattle.table_laws.specs.LoadLaws.{AreTyped}
use Rattle.table_laws.proofs.Fits.{parts}
use Rattle.table_laws.proofs.Keys.{each-by_key}
use Rattle.table_laws.proofs.TableLists.{Each, each-all}
use Rattle.table_laws.proofs.Loads.{ascend, loaded}

-- what is read as a geometry for a column is one that it takes
abbrev pub ReadsTaken : {T G : Type 0} → Takes T G → GeometryReader T G → Type 0
ReadsTaken {T} {G} takes geometry = (number : ℕ) (kind : T) (bytes : List ℕ) (g : G) → geometry number kind bytes ≡ Ok g → takes kind g

-- ---- values

-- a value for a column, no null where it is required
abbrev IsFor : {T G : Type 0} → Takes T G → ColumnType T → Bool → Value G → Type 0
IsFor takes kind required v = IsValueFor takes kind v × (required ≡ true → v ≢ value.Null)

-- a text is read as a whole number only within 64 bits
number-fits : (text : List ℕ) (n : ℤ) → number_in text ≡ Some n → fits_64_bits n ≡ true
number-fits text n e = go (is_number text) refl e
  where
    go : (b : Bool) → is_number text ≡ b → ◌≡◌ {A = Option ℤ} (if b then Some (signed_digits_value 10 text) else None) (Some n) → fits_64_bits n ≡ true
    go false is e = cc e
    go true is e =
        let same : signed_digits_value 10 text ≡ n = cc e in
        ap fits_64_bits (sym same) ∙ (and_parts _ _ (and_parts _ _ is).1).1

-- so is a field, blanks around the number passed over
integer-fits : (bytes : List ℕ) (n : ℤ) → integer_of bytes ≡ Some n → fits_64_bits n ≡ true
unfolding integer_of
integer-fits bytes n e = number-fits (trimmed bytes) n e

-- a field that isn't empty is read as a value for the column, by each type's own rule, and never as null:
-- a number of 64 bits, a text of UTF-8 that isn't empty, or a geometry that the column takes
filled-is-for : {T G : Type 0} (takes : Takes T G) (geometry : GeometryReader T G) → ReadsTaken takes geometry → (number : ℕ) (required : Bool) (kind : ColumnType T) (byte : ℕ) (bytes : List ℕ) (v : Value G)
    → filled_value geometry number kind (byte ∷ bytes) ≡ Ok v → IsFor takes kind required v
filled-is-for {T = T} {G = G} takes geometry taken number required column.Integer byte bytes v e = go (integer_of (byte ∷ bytes)) refl e
  where
    go : (n : Option ℤ) → integer_of (byte ∷ bytes) ≡ n → ◌≡◌ {A = Result (Value G) LoadFault} (ok_or (option_map value.Integer n) (fault.BadInteger number)) (Ok v) → IsFor takes column.Integer required v
    go None is e = cc e
    go (Some n) is e = let same : value.Integer n ≡ v = cc e in subst (IsFor takes column.Integer required) same (integer-fits (byte ∷ bytes) n is, λ r p. cc p)
filled-is-for {T = T} {G = G} takes geometry taken number required column.Text byte bytes v e = go (is_utf8 (byte ∷ bytes)) refl e
  where
    go : (b : Bool) → is_utf8 (byte ∷ bytes) ≡ b → ◌≡◌ {A = Result (Value G) LoadFault} (if b then Ok (value.Text (byte ∷ bytes)) else Err (fault.NotUtf8 number)) (Ok v) → IsFor takes column.Text required v
    go false is e = cc e
    go true is e = let same : value.Text (byte ∷ bytes) ≡ v = cc e in subst (IsFor takes column.Text required) same ((λ p. cc p, is), λ r p. cc p)
filled-is-for {T = T} {G = G} takes geometry taken number required (column.Geometry kind) byte bytes v e = go (geometry number kind (byte ∷ bytes)) refl e
  where
    go : (r : Result G LoadFault) → geometry number kind (byte ∷ bytes) ≡ r → ◌≡◌ {A = Result (Value G) LoadFault} (and_then r (λ g. Ok (value.Geometry g))) (Ok v) → IsFor takes (column.Geometry kind) required v
    go (Err f) is e = cc e
    go (Ok g) is e = let same : value.Geometry g ≡ v = cc e in subst (IsFor takes (column.Geometry kind) required) same (taken number kind (byte ∷ bytes) g is, λ r p. cc p)

-- an empty field is read as null only where the column takes it; others have a value for the column
value-is-for : {T G : Type 0} (takes : Takes T G) (geometry : GeometryReader T G) → ReadsTaken takes geometry → (number : ℕ) (required : Bool) (kind : ColumnType T) (bytes : List ℕ) (v : Value G)
    → value_of geometry number required kind bytes ≡ Ok v → IsFor takes kind required v
unfolding value_of
value-is-for {G = G} takes geometry taken number true kind [] v e = cc e
value-is-for {G = G} takes geometry taken number false kind [] v e = let same : value.Null ≡ v = cc e in subst (IsFor takes kind false) same (tt, λ r p. cc r)
value-is-for takes geometry taken number required kind (byte ∷ bytes) v e = filled-is-for takes geometry taken number required kind byte bytes v e

-- ---- rows

-- a row for columns, of which the first has this place
record IsRowFrom {T G : Type 0} (takes : Takes T G) (table : TableDef T) (first : ℕ) (columns : List (ColumnDef T)) (row : Row G) : Type 0 where
  width : length row ≡ length columns
  typed : (place : ℕ) (c : ColumnDef T) (v : Value G) → slice_get columns place ≡ Some c → slice_get row place ≡ Some v → IsFor takes c.column_type (is_required table (first + place, c)) v

-- field by field, there is one value for each column, and it is one for that column
values-are-for : {T G : Type 0} (takes : Takes T G) (geometry : GeometryReader T G) → ReadsTaken takes geometry
    → (table : TableDef T) (header : Record) (number : ℕ) (fields : Record) (first : ℕ) (columns : List (ColumnDef T)) (row : Row G)
    → each (map (λ c. value_of geometry number (is_required table c) c.1.column_type (field_under header fields c.1.name)) (enumerate_from first columns)) ≡ Ok row
    → IsRowFrom takes table first columns row
values-are-for {T = T} {G = G} takes geometry taken table header number fields first [] row e =
    let same : ◌≡◌ {A = Row G} [] row = cc e in
    subst (IsRowFrom takes table first []) same (record { width = refl; typed = λ place c v is here. cc is })
values-are-for {T = T} {G = G} takes geometry taken table header number fields first (c ∷ columns) row e =
    let p = parts (value_of geometry number (is_required table (first, c)) c.column_type (field_under header fields c.name))
    (map (λ c. value_of geometry number (is_required table c) c.1.column_type (field_under header fields c.1.name)) (enumerate_from (first + 1) columns)) row e in
    let h = value-is-for takes geometry taken number (is_required table (first, c)) c.column_type (field_under header fields c.name) p.head p.head_is in
    let t = values-are-for takes geometry taken table header number fields (first + 1) columns p.tail p.tail_is in
    subst (IsRowFrom takes table first (c ∷ columns)) p.all_is (joined p.head p.tail h t)
  where
    joined : (v : Value G) (rest : Row G) → IsFor takes c.column_type (is_required table (first, c)) v → IsRowFrom takes table (first + 1) columns rest → IsRowFrom takes table first (c ∷ columns) (v ∷ rest)
    joined v rest h t = record { width = ap suc t.width; typed = typed }
      where
        at_first : first ≡ first + 0
        at_first = omega arith

        at_next : (place : ℕ) → first + 1 + place ≡ first + suc place
        at_next place = omega arith

        typed : (place : ℕ) (d : ColumnDef T) (w : Value G) → slice_get (c ∷ columns) place ≡ Some d → slice_get (v ∷ rest) place ≡ Some w → IsFor takes d.column_type (is_required table (first + place, d)) w
        typed zero d w is here =
            let same : c ≡ d = cc is in
            let same_value : v ≡ w = cc here in
            subst (λ (x : Value G). IsFor takes d.column_type (is_required table (first + 0, d)) x) same_value
            (subst (λ (x : ColumnDef T). IsFor takes x.column_type (is_required table (first + 0, x)) v) same
            (subst (λ (k : ℕ). IsFor takes c.column_type (is_required table (k, c)) v) at_first h))
        typed (suc place) d w is here =
            subst (λ (k : ℕ). IsFor takes d.column_type (is_required table (k, d)) w) (at_next place) (t.typed place d w is here)

-- a row that was read, of a number that is allowed
abbrev IsRead : {T G : Type 0} → Takes T G → TableDef T → ℕ → Row G → Type 0
IsRead takes table number row = (number ≤ row_limit) × IsRowFrom takes table 0 table.columns row

-- a record is read as a row only where its number is within the limit, and then it is a row for the table
row-is-for : {T G : Type 0} (takes : Takes T G) (geometry : GeometryReader T G) → ReadsTaken takes geometry → (table : TableDef T) (header : Record) (number : ℕ) (fields : Record) (row : Row G)
    → checked_row geometry table header (number, fields) ≡ Ok row → IsRead takes table number row
unfolding checked_row row_of
row-is-for {G = G} takes geometry taken table header number fields row e =
    go (not (length fields == length header)) (nat_lt row_limit number) refl e
  where
    go : (a b : Bool) → nat_lt row_limit number ≡ b
        → ◌≡◌ {A = Result (Row G) LoadFault} (if a then Err (fault.UnequalRecord number) else if b then Err fault.TooManyRows else row_of geometry table header number fields) (Ok row)
        → IsRead takes table number row
    go true b is e = cc e
    go false true is e = cc e
    go false false is e = (ltb-false row_limit number is, values-are-for takes geometry taken table header number fields 0 table.columns row e)

-- rows that were read, of which the first has this number
abbrev AreRead : {T G : Type 0} → Takes T G → TableDef T → ℕ → List (Row G) → Type 0
AreRead takes table number rows = (length rows + number ≤ row_limit + 1) × Each (IsRowFrom takes table 0 table.columns) rows

-- records are numbered on, so there are no more rows than the limit allows, and each is a row for the table
rows-are-for : {T G : Type 0} (takes : Takes T G) (geometry : GeometryReader T G) → ReadsTaken takes geometry → (table : TableDef T) (header : Record) (number : ℕ) (records : List Record) (rows : List (Row G))
    → number ≤ row_limit + 1 → each (map (checked_row geometry table header) (enumerate_from number records)) ≡ Ok rows → AreRead takes table number rows
rows-are-for {G = G} takes geometry taken table header number [] rows few e =
    let same : ◌≡◌ {A = List (Row G)} [] rows = cc e in subst (AreRead takes table number) same (none number (row_limit + 1) few, tt)
  where
    none : (n limit : ℕ) → n ≤ limit → 0 + n ≤ limit
    none n limit l = omega (arith, l)
rows-are-for {G = G} takes geometry taken table header number (fields ∷ records) rows few e =
    let p = parts (checked_row geometry table header (number, fields)) (map (checked_row geometry table header) (enumerate_from (number + 1) records)) rows e in
    let h = row-is-for takes geometry taken table header number fields p.head p.head_is in
    let next : number + 1 ≤ row_limit + 1 = one_more number row_limit h.0 in
    let t = rows-are-for takes geometry taken table header (number + 1) records p.tail next p.tail_is in
    subst (AreRead takes table number) p.all_is (shifted (length p.tail) number row_limit t.0, (h.1, t.1))
  where
    one_more : (n limit : ℕ) → n ≤ limit → n + 1 ≤ limit + 1
    one_more n limit l = omega (arith, l)

    shifted : (size n limit : ℕ) → size + (n + 1) ≤ limit + 1 → suc size + n ≤ limit + 1
    shifted size n limit l = omega (arith, l)

-- the typed rows of a table's records are rows for the table, within the limit
typed-are-for : {T G : Type 0} (takes : Takes T G) (geometry : GeometryReader T G) → ReadsTaken takes geometry → (table : TableDef T) (records : List Record) (typed : List (Row G))
    → AreTyped geometry table records typed → AreRead takes table 1 typed
unfolding rows_of
typed-are-for takes geometry taken table records typed e =
    rows-are-for takes geometry taken table (unwrap_or (slice_get records 0) []) 1 (drop 1 records) typed (omega arith) e

-- ---- the rows of a table

-- an insertion adds one row
length-insert : {G : Type 0} (key : ℕ) (row : Row G) (rows : List (Row G)) → length (insert_by_key key row rows) ≡ suc (length rows)
length-insert key row [] = refl
length-insert {G = G} key row (other ∷ rows) = go _ (length-insert key row rows)
  where
    go : (b : Bool) → length (insert_by_key key row rows) ≡ suc (length rows) → length (if b then row ∷ other ∷ rows else other ∷ insert_by_key key row rows) ≡ suc (suc (length rows))
    go true e = refl
    go false e = ap suc e

-- rows by key are as many as before
length-by_key : {G : Type 0} (key : ℕ) (rows : List (Row G)) → length (by_key key rows) ≡ length rows
unfolding by_key
length-by_key key [] = refl
length-by_key key (row ∷ rows) = length-insert key row (by_key key rows) ∙ ap suc (length-by_key key rows)

-- the columns from the first on are all columns of the table
whole-row : {T G : Type 0} (takes : Takes T G) (table : TableDef T) (row : Row G) → IsRowFrom takes table 0 table.columns row → IsRow takes table row
whole-row {T = T} {G = G} takes table row h = record { width = h.width; typed = typed }
  where
    typed : (place : ℕ) (c : ColumnDef T) (v : Value G) → slice_get table.columns place ≡ Some c → slice_get row place ≡ Some v → IsFor takes c.column_type (is_required table (place, c)) v
    typed place c v is here = subst (λ (k : ℕ). IsFor takes c.column_type (is_required table (k, c)) v) (zero-add place) (h.typed place c v is here)

-- so rows for all of them are the table's rows
each-row : {T G : Type 0} (takes : Takes T G) (table : TableDef T) (rows : List (Row G)) → Each (IsRowFrom takes table 0 table.columns) rows → Each (IsRow takes table) rows
each-row takes table [] h = tt
each-row takes table (row ∷ rows) h = (whole-row takes table row h.0, each-row takes table rows h.1)

-- what loads is the typed rows put by key: as many, each still a row of the table, and their keys rise
pub loads_rows : {T G : Type 0} (takes : Takes T G) (geometry : GeometryReader T G) → ReadsTaken takes geometry → LoadsRows takes geometry
loads_rows {T = T} {G = G} takes geometry taken table records rows e =
    let l = loaded geometry table records rows e in
    let typed = typed-are-for takes geometry taken table records l.typed l.are_typed in
    record {
      few = few (length rows) (length l.typed) row_limit (ap length (sym l.is) ∙ length-by_key table.key l.typed) typed.0;
      each = each-all (IsRow takes table) rows (subst (Each (IsRow takes table)) l.is (each-by_key (IsRow takes table) table.key l.typed (each-row takes table l.typed typed.1)));
      ascend = ascend T G geometry table records rows e;
    }
  where
    few : (size typed limit : ℕ) → size ≡ typed → typed + 1 ≤ limit + 1 → size ≤ limit
    few size typed limit same l = omega (arith, same, l)

-- ---- databases

-- a table among others loads where it loads by itself; only a fault is returned with the table's place
table-loaded : {X : Type 0} (place : ℕ) (r : Result X LoadFault) (x : X) → at_table place r ≡ Ok x → r ≡ Ok x
table-loaded place (Ok y) x e = let same : y ≡ x = cc e in ap Ok same
table-loaded place (Err f) x e = cc e

-- the tables, of which the first has this place
record AreTables {T G : Type 0} (takes : Takes T G) (definitions : List (TableDef T)) (tables : List (Table G)) : Type 0 where
  count : length tables ≡ length definitions
  each_is : (place : ℕ) (table : TableDef T) (rows : Table G) → slice_get definitions place ≡ Some table → slice_get tables place ≡ Some rows → AreRows takes table rows

-- table by table, each of the lists of records that load gives the rows of its own table
tables-are : {T G : Type 0} (takes : Takes T G) (geometry : GeometryReader T G) → ReadsTaken takes geometry → (first : ℕ) (definitions : List (TableDef T)) (texts : List (List Record)) (tables : List (Table G))
    → length texts ≡ length definitions → each (map (λ t. at_table t.0 (load geometry t.1.0 t.1.1)) (enumerate_from first (zip definitions texts))) ≡ Ok tables → AreTables takes definitions tables
tables-are {T = T} {G = G} takes geometry taken first [] [] tables many e =
    let same : ◌≡◌ {A = List (Table G)} [] tables = cc e in
    subst (AreTables takes []) same (record { count = refl; each_is = λ place table rows is here. cc is })
tables-are takes geometry taken first [] (text ∷ texts) tables many e = cc many
tables-are takes geometry taken first (d ∷ definitions) [] tables many e = cc many
tables-are {T = T} {G = G} takes geometry taken first (d ∷ definitions) (text ∷ texts) tables many e =
    let fewer : length texts ≡ length definitions = one_less (length texts) (length definitions) many in
    let p = parts (at_table first (load geometry d text)) (map (λ t. at_table t.0 (load geometry t.1.0 t.1.1)) (enumerate_from (first + 1) (zip definitions texts))) tables e in
    let h = loads_rows takes geometry taken d text p.head (table-loaded first (load geometry d text) p.head p.head_is) in
    let t = tables-are takes geometry taken (first + 1) definitions texts p.tail fewer p.tail_is in
    subst (AreTables takes (d ∷ definitions)) p.all_is (joined p.head p.tail h t)
  where
    one_less : (a b : ℕ) → suc a ≡ suc b → a ≡ b
    one_less a b e = omega (arith, e)

    joined : (rows : Table G) (rest : List (Table G)) → AreRows takes d rows → AreTables takes definitions rest → AreTables takes (d ∷ definitions) (rows ∷ rest)
    joined rows rest h t = record { count = ap suc t.count; each_is = each_is }
      where
        each_is : (place : ℕ) (table : TableDef T) (found : Table G) → slice_get (d ∷ definitions) place ≡ Some table → slice_get (rows ∷ rest) place ≡ Some found → AreRows takes table found
        each_is zero table found is here =
            let same : d ≡ table = cc is in
            let same_rows : rows ≡ found = cc here in
            subst (λ (x : Table G). AreRows takes table x) same_rows (subst (λ (x : TableDef T). AreRows takes x rows) same h)
        each_is (suc place) table found is here = t.each_is place table found is here

-- tables that load for lawful definitions are one for each, with the rows of that table
pub loads_database : {T G : Type 0} (takes : Takes T G) (geometry : GeometryReader T G) → ReadsTaken takes geometry → LoadsDatabase takes geometry
unfolding load_tables
loads_database takes geometry taken definitions texts tables are many e =
    let t = tables-are takes geometry taken 0 definitions texts tables many e in
    record { lawful = are; count = t.count; tables = t.each_is }
