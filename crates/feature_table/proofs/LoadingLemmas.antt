-- The rows of the first records: those of a text, some of which are left, or those that were read where no text is known.
use Rattle.std.proofs.Common.{◌≡◌, ◌==◌, ◌∙◌, ◌+◌, ◌++◌, ◌<◌, ◌≤◌, ℕ, zero, suc, Bool, true, false, cond, nat_lt, not, List, [], ◌∷◌, Option, Result, Ok, Err, ap, arith, drop, get_or, length, refl, drop_at}
use Rattle.std.proofs.lemmas.Bool.Decides.{nat_tests}
use Rattle.std.proofs.lemmas.List.{append_assoc, get_or-map, length-append, length-map}
use Rattle.std.proofs.lemmas.List.FromFn.{get_or-enumerate_from, length-enumerate_from}
use Rattle.std.specs.List.{enumerate_from}
use Rattle.basics.proofs.Lists.{past_end}
use Rattle.feature_table.proofs.EachLemmas.{Passed, passed_all, passed_fault, passed_more}
use Rattle.feature_table.specs.Records.{Gives}
use Rattle.feature_table.specs.declared.records.Records.{Records}
use Rattle.table_model.specs.Loading.{GeometryReader, Record, checked_row, checked_rows, row_limit, row_of, rows_of}
use Rattle.table_model.specs.Meanings.{Row}
use Rattle.table_model.specs.declared.definitions.TableDef.{TableDef}
use Rattle.table_model.specs.declared.faults.LoadFault.{LoadFault}
use Rattle.table_model.specs.declared.faults.LoadFault.TheVariants as fault

-- ---- records in turn

-- what is at a place
pub at_place : {X : Type 0} (xs : List X) (i : ℕ) (x : X) (ys : List X) → drop i xs ≡ x ∷ ys → (i < length xs) × (get_or xs i x ≡ x) × (drop (i + 1) xs ≡ ys)
at_place [] zero x ys h = cc h
at_place [] (suc i) x ys h = cc h
at_place (z ∷ zs) zero x ys h = let first : z ≡ x = cc h in let rest : zs ≡ ys = cc h in (omega arith, first, rest)
at_place (z ∷ zs) (suc i) x ys h =
    let more = at_place zs i x ys h in
    let next : suc i + 1 ≡ suc (i + 1) = omega arith in
    (omega (arith, more.0), more.1, rw next more.2)

-- there are as many answers as records
length-rows : {T G : Type 0} (geometry : GeometryReader T G) (table : TableDef T) (header : Record) (records : List Record)
    → length (checked_rows geometry table header records) ≡ length records
length-rows geometry table header records = simp (length-map, length-enumerate_from)

-- the answer of the record at a place
row_at : {T G : Type 0} (geometry : GeometryReader T G) (table : TableDef T) (header : Record) (records : List Record) (i : ℕ) (x : Record) (d : Result (Row G) LoadFault)
    → i < length records → get_or records i x ≡ x → get_or (checked_rows geometry table header records) i d ≡ checked_row geometry table header (i + 1, x)
row_at geometry table header records i x d within here =
    let item = get_or-enumerate_from 1 records i (0, x) within in
    let n : 1 + i ≡ i + 1 = omega arith in
    let pair : get_or (enumerate_from 1 records) i (0, x) ≡ (i + 1, x) = rw (n, here) at item in
    let size = length-enumerate_from 1 records in
    get_or-map (checked_row geometry table header) (enumerate_from 1 records) i (0, x) d (omega (arith, size)) ∙ ap (checked_row geometry table header) pair

-- one record more is a row
row_more : {T G : Type 0} (geometry : GeometryReader T G) (table : TableDef T) (header : Record) (records : List Record) (place : ℕ) (rows : List (Row G))
    (first : Record) (more : List Record) (row : Row G) → Passed (checked_rows geometry table header records) place rows → drop place records ≡ first ∷ more
    → checked_row geometry table header (place + 1, first) ≡ Ok row → Passed (checked_rows geometry table header records) (place + 1) (rows ++ row ∷ [])
row_more geometry table header records place rows first more row passed takes is =
    let at = at_place records place first more takes in
    let size = length-rows geometry table header records in
    let d = Err fault.TooManyRows in
    let here = row_at geometry table header records place first d at.0 at.1 ∙ is in
    passed_more (checked_rows geometry table header records) place rows row d (omega (arith, size, at.0)) passed here

-- the next record has a fault
row_fault : {T G : Type 0} (geometry : GeometryReader T G) (table : TableDef T) (header : Record) (records : List Record) (place : ℕ) (rows : List (Row G))
    (first : Record) (more : List Record) (f : LoadFault) → Passed (checked_rows geometry table header records) place rows → drop place records ≡ first ∷ more
    → checked_row geometry table header (place + 1, first) ≡ Err f → rows_of geometry table header records ≡ Err f
unfolding rows_of
row_fault geometry table header records place rows first more f passed takes is =
    let at = at_place records place first more takes in
    let size = length-rows geometry table header records in
    let d = Err fault.TooManyRows in
    let here = row_at geometry table header records place first d at.0 at.1 ∙ is in
    passed_fault (checked_rows geometry table header records) place rows f d (omega (arith, size, at.0)) passed here

-- no record is left
row_end : {T G : Type 0} (geometry : GeometryReader T G) (table : TableDef T) (header : Record) (records : List Record) (place : ℕ) (rows : List (Row G))
    → Passed (checked_rows geometry table header records) place rows → drop place records ≡ [] → rows_of geometry table header records ≡ Ok rows
unfolding rows_of
row_end geometry table header records place rows passed none =
    let past = past_end records place none in
    let size = length-rows geometry table header records in
    passed_all (checked_rows geometry table header records) place rows (omega (arith, size, past)) passed

-- ---- the records of a text

-- so many records are rows, and a reader still gives the rest
pub record Midway {R T G : Type 0} (remaining : R → Option (List ℕ)) (reader : Records R) (geometry : GeometryReader T G) (table : TableDef T) (header : Record) (records : List Record)
    (place : ℕ) (rows : List (Row G)) : Type 0 where
  pub gives : Gives remaining reader (drop place records)
  pub passed : Passed (checked_rows geometry table header records) place rows

-- the next record is a row: it is kept, and the reader gives the rest
pub midway_more : {R T G : Type 0} (remaining : R → Option (List ℕ)) (old new : Records R) (geometry : GeometryReader T G) (table : TableDef T) (header : Record) (records : List Record)
    (place : ℕ) (rows : List (Row G)) (first : Record) (more : List Record) (row : Row G) → Midway remaining old geometry table header records place rows
    → drop place records ≡ first ∷ more → checked_row geometry table header (place + 1, first) ≡ Ok row → Gives remaining new more
    → Midway remaining new geometry table header records (place + 1) (rows ++ row ∷ [])
midway_more remaining old new geometry table header records place rows first more row m takes is gives =
    let at = at_place records place first more takes in
    record { gives = rw at.2 gives; passed = row_more geometry table header records place rows first more row m.passed takes is }

-- the next record has a fault: that is the first one, since all before it are rows
pub midway_fault : {R T G : Type 0} (remaining : R → Option (List ℕ)) (old : Records R) (geometry : GeometryReader T G) (table : TableDef T) (header : Record) (records : List Record)
    (place : ℕ) (rows : List (Row G)) (first : Record) (more : List Record) (f : LoadFault) → Midway remaining old geometry table header records place rows
    → drop place records ≡ first ∷ more → checked_row geometry table header (place + 1, first) ≡ Err f
    → rows_of geometry table header records ≡ Err f
midway_fault remaining old geometry table header records place rows first more f m takes is =
    row_fault geometry table header records place rows first more f m.passed takes is

-- no record is left: all are rows
pub midway_end : {R T G : Type 0} (remaining : R → Option (List ℕ)) (old : Records R) (geometry : GeometryReader T G) (table : TableDef T) (header : Record) (records : List Record)
    (place : ℕ) (rows : List (Row G)) → Midway remaining old geometry table header records place rows → drop place records ≡ []
    → rows_of geometry table header records ≡ Ok rows
midway_end remaining old geometry table header records place rows m none = row_end geometry table header records place rows m.passed none

-- ---- the records that were read, where no text is known

-- so many records were read, and they are rows, whatever comes after them
pub record AreRead {T G : Type 0} (geometry : GeometryReader T G) (table : TableDef T) (header : Record) (place : ℕ) (rows : List (Row G)) : Type 0 where
  pub records : List Record
  pub count : length records ≡ place
  pub passed : (more : List Record) → Passed (checked_rows geometry table header (records ++ more)) place rows

-- before the first record nothing was read
pub read_none : {T G : Type 0} (geometry : GeometryReader T G) (table : TableDef T) (header : Record) → AreRead geometry table header 0 []
read_none geometry table header = record { records = []; count = refl; passed = λ more. refl }

-- one record more was read, and it is a row
pub read_more : {T G : Type 0} (geometry : GeometryReader T G) (table : TableDef T) (header : Record) (place : ℕ) (rows : List (Row G)) (fields : Record) (row : Row G)
    → AreRead geometry table header place rows → checked_row geometry table header (place + 1, fields) ≡ Ok row
    → AreRead geometry table header (place + 1) (rows ++ row ∷ [])
read_more geometry table header place rows fields row a is = record {
  records = a.records ++ fields ∷ [];
  count = omega (arith, length-append a.records (fields ∷ []), a.count);
  passed = λ more.
      rw (append_assoc a.records (fields ∷ []) more)
      (row_more geometry table header (a.records ++ fields ∷ more) place rows fields more row (a.passed (fields ∷ more)) (drop_at a.records (fields ∷ more) place a.count) is);
}

-- the next record that was read has a fault: the records so far and this one have it first
pub read_fault : {T G : Type 0} (geometry : GeometryReader T G) (table : TableDef T) (header : Record) (place : ℕ) (rows : List (Row G)) (fields : Record) (f : LoadFault)
    → (a : AreRead geometry table header place rows) → checked_row geometry table header (place + 1, fields) ≡ Err f
    → rows_of geometry table header (a.records ++ fields ∷ []) ≡ Err f
read_fault geometry table header place rows fields f a is =
    row_fault geometry table header (a.records ++ fields ∷ []) place rows fields [] f (a.passed (fields ∷ [])) (drop_at a.records (fields ∷ []) place a.count) is

-- nothing more is read: the records so far give these rows
pub read_end : {T G : Type 0} (geometry : GeometryReader T G) (table : TableDef T) (header : Record) (place : ℕ) (rows : List (Row G))
    → AreRead geometry table header place rows → (records : List Record) × (rows_of geometry table header records ≡ Ok rows)
read_end geometry table header place rows a =
    (a.records ++ [], row_end geometry table header (a.records ++ []) place rows (a.passed []) (drop_at a.records [] place a.count))

-- the number of a record that gives a row is one of those that a table may have
pub row_is_within : {T G : Type 0} (geometry : GeometryReader T G) (table : TableDef T) (header : Record) (number : ℕ) (fields : Record) (row : Row G)
    → checked_row geometry table header (number, fields) ≡ Ok row → number ≤ row_limit
unfolding checked_row
row_is_within {G = G} geometry table header number fields row = go (length fields == length header) (nat_lt 100000 number) refl
  where
    go : (fits late : Bool) → nat_lt 100000 number ≡ late → ◌≡◌ {A = Result (Row G) LoadFault}
        (cond (not fits) (Err (fault.UnequalRecord number)) (cond late (Err fault.TooManyRows) (row_of geometry table header number fields))) (Ok row) → number ≤ 100000
    go true false is e = grind (arith, nat_tests)
    go true true is e = cc e
    go false late is e = cc e
