-- The tables of a database, one after the other.
use Rattle.std.proofs.Common.{◌≡◌, ◌∙◌, ◌+◌, ◌++◌, ◌<◌, ℕ, List, [], ◌∷◌, Option, None, Some, Result, Ok, Err, IfErr, ap, ap₂, arith, drop, get_or, length, map, refl, subst, sym, take, drop_at}
use Rattle.std.proofs.lemmas.List.{append-nil, append_assoc, drop_more, get_or-map, length-append, length-map, take-append-drop, take_all}
use Rattle.std.proofs.lemmas.List.FromFn.{get_or-enumerate_from, length-enumerate_from}
use Rattle.std.proofs.lemmas.Option.{get_or_from_slice_get, slice_get-get_or}
use Rattle.std.proofs.lemmas.Slice.Zip.{get_or-zip}
use Rattle.std.specs.List.{enumerate_from, zip}
use Rattle.feature_table.proofs.EachLemmas.{Passed, passed_all, passed_fault, passed_front, passed_more}
use Rattle.feature_table.proofs.LoadingLemmas.{at_place}
use Rattle.feature_table.specs.LastRecords.{AreShown, ShowsRefused}
use Rattle.feature_table.specs.Outcomes.{IsFailure, LoadsTable}
use Rattle.feature_table.proofs.ReaderRecords.{each-append, each-more, fill, length-each}
use Rattle.feature_table.specs.Tables.{AreOfRecords, AreRecordsOf, EachRecordsOf, EarlierLoad, records_in, tables_in}
use Rattle.table_model.specs.Databases.{at_table, load_tables, loaded_tables}
use Rattle.table_model.specs.Loading.{GeometryReader, Record, load}
use Rattle.table_model.specs.Meanings.{Table}
use Rattle.table_model.specs.declared.definitions.TableDef.{TableDef}
use Rattle.table_model.specs.declared.faults.LoadFault.TheVariants as fault
use Rattle.table_model.specs.declared.faults.TableFault.{TableFault}

length-zip_same : {A B : Type 0} (xs : List A) (ys : List B) → length xs ≡ length ys → length (zip xs ys) ≡ length xs
length-zip_same [] ys h = refl
length-zip_same (x ∷ xs) [] h = absurd (omega arith)
length-zip_same (x ∷ xs) (y ∷ ys) h = let more = length-zip_same xs ys (omega arith) in omega (arith, more)

-- as many tables as definitions
length-loaded : {T G : Type 0} (geometry : GeometryReader T G) (definitions : List (TableDef T)) (records : List (List Record)) → length definitions ≡ length records
    → length (loaded_tables geometry definitions records) ≡ length definitions
length-loaded geometry definitions records same =
    let pairs = length-zip_same definitions records same in
    simp (length-map, length-enumerate_from) pairs

-- the table of the records at a place
loaded_at : {T G : Type 0} (geometry : GeometryReader T G) (definitions : List (TableDef T)) (records : List (List Record)) (i : ℕ) (t : TableDef T) (e : List Record)
    (d : Result (Table G) TableFault) → length definitions ≡ length records → i < length definitions
    → get_or (loaded_tables geometry definitions records) i d ≡ at_table i (load geometry (get_or definitions i t) (get_or records i e))
loaded_at {T = T} geometry definitions records i t e d same within =
    let pairs = length-zip_same definitions records same in
    let one = λ (p : ℕ × (TableDef T × List Record)). at_table p.0 (load geometry p.1.0 p.1.1) in
    let numbered = length-enumerate_from 0 (zip definitions records) in
    let item = get_or-enumerate_from 0 (zip definitions records) i (0, (t, e)) (omega (arith, pairs)) in
    let pair = get_or-zip definitions records i (t, e) within (omega (arith, same)) in
    let n : 0 + i ≡ i = omega arith in
    let whole : get_or (enumerate_from 0 (zip definitions records)) i (0, (t, e)) ≡ (i, (get_or definitions i t, get_or records i e)) = rw (n, pair) at item in
    get_or-map one (enumerate_from 0 (zip definitions records)) i (0, (t, e)) d (omega (arith, numbered, pairs)) ∙ ap one whole

-- a number that stands for no table
no_table : {G : Type 0} → Result (Table G) TableFault
no_table = Err (record { table = 0; fault = fault.TooManyRows })

pub no_definition : {T : Type 0} → TableDef T
no_definition = record { name = []; columns = []; key = 0 }

-- an item of the readers in turn is a place and the reader there
pub reader_at : {R : Type 0} (readers : List R) (n place : ℕ) (reader : R) → n < length (enumerate_from 0 readers)
    → (place, reader) ≡ get_or (enumerate_from 0 readers) n (place, reader) → (n < length readers) × (place ≡ n) × (reader ≡ get_or readers n reader)
reader_at {R = R} readers n place reader within is =
    let numbered = length-enumerate_from 0 readers in
    let inside : n < length readers = omega (arith, numbered) in
    let both = is ∙ get_or-enumerate_from 0 readers n (place, reader) inside in
    let first : place ≡ 0 + n = ap (λ (p : ℕ × R). p.0) both in
    (inside, omega (arith, first), ap (λ (p : ℕ × R). p.1) both)

-- ---- tables of some records, where no text is known

-- so many tables are those of records of their readers, whatever records stand for the tables behind them
pub record HaveLoaded {T G : Type 0} (geometry : GeometryReader T G) (definitions : List (TableDef T)) (known : List (Option (List ℕ))) (n : ℕ) (tables : List (Table G)) : Type 0 where
  pub records : List (List Record)
  pub are_of : EachRecordsOf (take n known) records
  pub count : length records ≡ n
  pub passed : (more : List (List Record)) → length definitions ≡ length (records ++ more) → Passed (loaded_tables geometry definitions (records ++ more)) n tables

-- the next table, of these records
next_at : {T G : Type 0} (geometry : GeometryReader T G) (definitions : List (TableDef T)) (earlier : List (List Record)) (n : ℕ) (next : List Record) (more : List (List Record))
    (t : TableDef T) (d : Result (Table G) TableFault) → length earlier ≡ n → length definitions ≡ length (earlier ++ next ∷ more)
    → (n < length definitions) × (get_or (loaded_tables geometry definitions (earlier ++ next ∷ more)) n d ≡ at_table n (load geometry (get_or definitions n t) next))
next_at geometry definitions earlier n next more t d count same =
    let at = at_place (earlier ++ next ∷ more) n next more (drop_at earlier (next ∷ more) n count) in
    let within : n < length definitions = omega (arith, at.0, same) in (
      within,
      loaded_at geometry definitions (earlier ++ next ∷ more) n t next d same within
          ∙ ap (λ (records : List Record). at_table n (load geometry (get_or definitions n t) records)) at.1,
    )

-- one table more
pub loaded_more : {T G : Type 0} (geometry : GeometryReader T G) (definitions : List (TableDef T)) (known : List (Option (List ℕ))) (n : ℕ) (tables : List (Table G)) (t : TableDef T)
    (next : List Record) (table : Table G) → HaveLoaded geometry definitions known n tables → n < length known → AreRecordsOf (get_or known n None) next
    → at_table n (load geometry (get_or definitions n t) next) ≡ Ok table → HaveLoaded geometry definitions known (n + 1) (tables ++ table ∷ [])
loaded_more geometry definitions known n tables t next table a within of is = record {
  records = a.records ++ next ∷ [];
  are_of = each-more known n a.records next within a.are_of of;
  count = omega (arith, length-append a.records (next ∷ []), a.count);
  passed = λ more same.
      let all = append_assoc a.records (next ∷ []) more in
      let size : length definitions ≡ length (a.records ++ next ∷ more) = same ∙ ap length all in
      let at = next_at geometry definitions a.records n next more t no_table a.count size in
      let whole = length-loaded geometry definitions (a.records ++ next ∷ more) size in
      rw all (passed_more (loaded_tables geometry definitions (a.records ++ next ∷ more)) n tables table no_table (omega (arith, whole, at.0)) (a.passed (next ∷ more) size) (at.1 ∙ is));
}

-- all tables
pub all_loaded : {T G X : Type 0} (geometry : GeometryReader T G) (definitions : List (TableDef T)) (known : List (Option (List ℕ))) (n : ℕ) (tables : List (Table G))
    (view : X → List (Table G)) (x : X) → HaveLoaded geometry definitions known n tables → n ≡ length definitions → length known ≡ length definitions → view x ≡ tables
    → AreOfRecords geometry definitions known view (Ok x)
unfolding load_tables
all_loaded geometry definitions known n tables view x a all many is =
    let records = a.records ++ [] in
    let size : length definitions ≡ length records = omega (arith, length-append a.records [], a.count, all) in
    let whole = length-loaded geometry definitions records size in
    record {
      records = records;
      are_of = rw (append-nil a.records, ← take_all n known (omega (arith, all, many))) a.are_of;
      loads = passed_all (loaded_tables geometry definitions records) n tables (omega (arith, whole, all)) (a.passed [] size) ∙ ap Ok (sym is);
      earlier = tt;
    }

-- a table of a fault, and what has it was read last
pub fault_loaded : {T G X : Type 0} (geometry : GeometryReader T G) (definitions : List (TableDef T)) (known : List (Option (List ℕ))) (n : ℕ) (tables : List (Table G))
    (view : X → List (Table G)) (t : TableDef T) (next : List Record) (f : TableFault) (header last : Record) → HaveLoaded geometry definitions known n tables → n < length definitions
    → length known ≡ length definitions → f.table ≡ n → AreRecordsOf (get_or known n None) next
    → (¬ (IsFailure f.fault) → at_table n (load geometry (get_or definitions n t) next) ≡ Err f) → ShowsRefused next header last f.fault
    → AreShown geometry definitions known view header last (Err f)
unfolding load_tables
fault_loaded geometry definitions known n tables view t next f header last a within many place of is shown =
    let others = fill (drop (n + 1) known) in
    let more = others.0 in
    let records = a.records ++ next ∷ more in
    let split : known ≡ take n known ++ get_or known n None ∷ drop (n + 1) known =
    sym (take-append-drop n known) ∙ ap (λ (rest : List (Option (List ℕ))). take n known ++ rest) (drop_more known n None (omega (arith, within, many))) in
    let each : EachRecordsOf known records =
    subst (λ (ks : List (Option (List ℕ))). EachRecordsOf ks records) (sym split)
    (each-append (take n known) (get_or known n None ∷ drop (n + 1) known) a.records (next ∷ more) a.are_of (of, others.1)) in
    let size : length definitions ≡ length records = sym (length-each known records each ∙ many) in
    let whole = length-loaded geometry definitions records size in
    let at = next_at geometry definitions a.records n next more t no_table a.count size in
    let passed = a.passed (next ∷ more) size in
    let there = at_place records n next more (drop_at a.records (next ∷ more) n a.count) in
    let here : get_or records n [] ≡ next = get_or_from_slice_get records n next [] (slice_get-get_or records n next there.0 ∙ ap Some there.1) in (
      record {
        records = records;
        are_of = each;
        loads = λ other. passed_fault (loaded_tables geometry definitions records) n tables f no_table (omega (arith, whole, at.0)) passed (at.1 ∙ is other);
        earlier = rw place (passed_front (loaded_tables geometry definitions records) n tables passed);
      },
      subst (λ (k : ℕ). ShowsRefused (get_or records k []) header last f.fault) (sym place)
          (subst (λ (r : List Record). ShowsRefused r header last f.fault) (sym here) shown),
    )

-- what is known of the reader at a place
pub known_at : {R : Type 0} (remaining : R → Option (List ℕ)) (readers : List R) (n : ℕ) (reader : R) → n < length readers → reader ≡ get_or readers n reader
    → remaining reader ≡ get_or (map remaining readers) n None
known_at remaining readers n reader within is = ap remaining is ∙ sym (get_or-map remaining readers n reader None within)

-- what readers of known bytes give are the records of their texts
texts_records : (texts : List (List ℕ)) (records : List (List Record)) → EachRecordsOf (map Some texts) records → records ≡ map records_in texts
texts_records [] [] h = refl
texts_records [] (r ∷ rs) h = absurd h
texts_records (t ∷ ts) [] h = absurd h
texts_records (t ∷ ts) (r ∷ rs) h = ap₂ (λ (x : List Record) (xs : List (List Record)). x ∷ xs) h.0 (texts_records ts rs h.1)

-- an answer of records of readers whose texts are known is that of the texts
pub loads_texts : {T G X : Type 0} (geometry : GeometryReader T G) (definitions : List (TableDef T)) (known : List (Option (List ℕ))) (view : X → List (Table G))
    (answer : Result X TableFault) (texts : List (List ℕ)) → AreOfRecords geometry definitions known view answer → known ≡ map Some texts
    → LoadsTable view answer (tables_in geometry definitions texts) × IfErr answer (λ f. EarlierLoad geometry definitions (map records_in texts) f.table)
loads_texts geometry definitions known view answer texts a is =
    let same = texts_records texts a.records (subst (λ (ks : List (Option (List ℕ))). EachRecordsOf ks a.records) is a.are_of) in (
      subst (λ (records : List (List Record)). LoadsTable view answer (load_tables geometry definitions records)) same a.loads,
      subst (λ (records : List (List Record)). IfErr answer (λ f. EarlierLoad geometry definitions records f.table)) same a.earlier,
    )
