-- What the first records give, one by one: those of a text, some of which are left, or those that were read where no text is known.
use Rattle.std.proofs.Common.{◌≡◌, ◌∙◌, ◌+◌, ◌++◌, ◌<◌, ℕ, List, [], ◌∷◌, Option, Result, Ok, Err, ap, arith, drop, get_or, length, map, refl, drop_at}
use Rattle.std.proofs.lemmas.List.{append_assoc, get_or-map, length-append, length-map}
use Rattle.std.proofs.lemmas.List.FromFn.{get_or-enumerate_from, length-enumerate_from}
use Rattle.std.specs.List.{enumerate_from}
use Rattle.basics.proofs.Lists.{past_end}
use Rattle.tiles.specs.declared.plain_records.PlainRecords.{PlainRecords}
use Rattle.feature_table.proofs.EachLemmas.{Passed, passed_all, passed_fault, passed_more}
use Rattle.feature_table.proofs.LoadingLemmas.{at_place}
use Rattle.tiles.specs.PlainRecords.{GivesRest}
use Rattle.table_model.specs.Loading.{Record, each}
use Rattle.table_model.specs.declared.faults.LoadFault.{LoadFault}
use Rattle.table_model.specs.declared.faults.LoadFault.TheVariants as fault
use Rattle.tiles.specs.Passes.{Of}

-- what each record gives; the records are numbered from 1
abbrev pub all_of : {A : Type 0} → Of A → List Record → List (Result A LoadFault)
all_of of records = map of (enumerate_from 1 records)

-- there are as many answers as records
length-all : {A : Type 0} (of : Of A) (records : List Record) → length (all_of of records) ≡ length records
length-all of records = simp (length-map, length-enumerate_from)

-- the answer of the record at a place
answer_at : {A : Type 0} (of : Of A) (records : List Record) (i : ℕ) (x : Record) (d : Result A LoadFault)
    → i < length records → get_or records i x ≡ x → get_or (all_of of records) i d ≡ of (i + 1, x)
answer_at of records i x d within here =
    let item = get_or-enumerate_from 1 records i (0, x) within in
    let n : 1 + i ≡ i + 1 = omega arith in
    let pair : get_or (enumerate_from 1 records) i (0, x) ≡ (i + 1, x) = rw (n, here) at item in
    let size = length-enumerate_from 1 records in
    get_or-map of (enumerate_from 1 records) i (0, x) d (omega (arith, size)) ∙ ap of pair

-- one record more gives a value
pub answer_more : {A : Type 0} (of : Of A) (records : List Record) (place : ℕ) (found : List A)
    (first : Record) (more : List Record) (x : A) → Passed (all_of of records) place found → drop place records ≡ first ∷ more
    → of (place + 1, first) ≡ Ok x → Passed (all_of of records) (place + 1) (found ++ x ∷ [])
answer_more of records place found first more x passed takes is =
    let at = at_place records place first more takes in
    let size = length-all of records in
    let d = Err fault.TooManyRows in
    let here = answer_at of records place first d at.0 at.1 ∙ is in
    passed_more (all_of of records) place found x d (omega (arith, size, at.0)) passed here

-- the next record has a fault
pub answer_fault : {A : Type 0} (of : Of A) (records : List Record) (place : ℕ) (found : List A)
    (first : Record) (more : List Record) (f : LoadFault) → Passed (all_of of records) place found → drop place records ≡ first ∷ more
    → of (place + 1, first) ≡ Err f → each (all_of of records) ≡ Err f
answer_fault of records place found first more f passed takes is =
    let at = at_place records place first more takes in
    let size = length-all of records in
    let d = Err fault.TooManyRows in
    let here = answer_at of records place first d at.0 at.1 ∙ is in
    passed_fault (all_of of records) place found f d (omega (arith, size, at.0)) passed here

-- no record is left
pub answer_end : {A : Type 0} (of : Of A) (records : List Record) (place : ℕ) (found : List A)
    → Passed (all_of of records) place found → drop place records ≡ [] → each (all_of of records) ≡ Ok found
answer_end of records place found passed none =
    let past = past_end records place none in
    let size = length-all of records in
    passed_all (all_of of records) place found (omega (arith, size, past)) passed

-- ---- the records of a text

-- so many records give values, and a reader still gives the rest
pub record Midway {R A : Type 0} (remaining : R → Option (List ℕ)) (reader : PlainRecords R) (of : Of A) (records : List Record) (place : ℕ) (found : List A) : Type 0 where
  pub gives : GivesRest remaining reader (drop place records)
  pub passed : Passed (all_of of records) place found

-- the next record gives a value, and the reader gives the rest
pub midway_more : {R A : Type 0} (remaining : R → Option (List ℕ)) (old new : PlainRecords R) (of : Of A) (records : List Record)
    (place : ℕ) (found : List A) (first : Record) (more : List Record) (x : A) → Midway remaining old of records place found
    → drop place records ≡ first ∷ more → of (place + 1, first) ≡ Ok x → GivesRest remaining new more
    → Midway remaining new of records (place + 1) (found ++ x ∷ [])
midway_more remaining old new of records place found first more x m takes is gives =
    let at = at_place records place first more takes in
    record { gives = rw at.2 gives; passed = answer_more of records place found first more x m.passed takes is }

-- ---- the records that were read, where no text is known

-- so many records were read, and they give values, whatever comes after them
pub record AreRead {A : Type 0} (of : Of A) (place : ℕ) (found : List A) : Type 0 where
  pub records : List Record
  pub count : length records ≡ place
  pub passed : (more : List Record) → Passed (all_of of (records ++ more)) place found

-- before the first record nothing was read
pub read_none : {A : Type 0} (of : Of A) → AreRead of 0 []
read_none of = record { records = []; count = refl; passed = λ more. refl }

-- one record more was read, and it gives a value
pub read_more : {A : Type 0} (of : Of A) (place : ℕ) (found : List A) (fields : Record) (x : A)
    → AreRead of place found → of (place + 1, fields) ≡ Ok x → AreRead of (place + 1) (found ++ x ∷ [])
read_more of place found fields x a is = record {
  records = a.records ++ fields ∷ [];
  count = omega (arith, length-append a.records (fields ∷ []), a.count);
  passed = λ more.
      rw (append_assoc a.records (fields ∷ []) more)
      (answer_more of (a.records ++ fields ∷ more) place found fields more x (a.passed (fields ∷ more)) (drop_at a.records (fields ∷ more) place a.count) is);
}

-- the next record that was read has a fault: the records so far and this one have it first
pub read_fault : {A : Type 0} (of : Of A) (place : ℕ) (found : List A) (fields : Record) (f : LoadFault)
    → AreRead of place found → of (place + 1, fields) ≡ Err f → (records : List Record) × (each (all_of of records) ≡ Err f)
read_fault of place found fields f a is = (
  a.records ++ fields ∷ [],
  answer_fault of (a.records ++ fields ∷ []) place found fields [] f (a.passed (fields ∷ [])) (drop_at a.records (fields ∷ []) place a.count) is,
)

-- nothing more is read: the records so far give these values
pub read_end : {A : Type 0} (of : Of A) (place : ℕ) (found : List A)
    → AreRead of place found → (records : List Record) × (each (all_of of records) ≡ Ok found)
read_end of place found a =
    (a.records ++ [], answer_end of (a.records ++ []) place found (a.passed []) (drop_at a.records [] place a.count))
