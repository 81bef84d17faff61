-- Records of readers whose bytes are known or not.
use Rattle.std.proofs.Common.{◌≡◌, ◌+◌, ◌++◌, ◌<◌, ℕ, List, [], ◌∷◌, Option, None, Some, Result, IfErr, ap, get_or, length, refl, suc, take}
use Rattle.std.proofs.lemmas.List.{take_more}
use Rattle.feature_table.specs.Outcomes.{Loads}
use Rattle.feature_table.specs.LastRecords.{ShowsRefused, ShowsTable}
use Rattle.feature_table.specs.Tables.{AreRecordsOf, EachRecordsOf, records_in, table_in}
use Rattle.table_model.specs.Loading.{GeometryReader, Record}
use Rattle.table_model.specs.Meanings.{Table}
use Rattle.table_model.specs.declared.definitions.TableDef.{TableDef}
use Rattle.table_model.specs.declared.faults.LoadFault.{LoadFault}

-- an answer of known bytes, or of some records, and what has its fault was read last
pub shows_reader : {T G X : Type 0} (geometry : GeometryReader T G) (table : TableDef T) (known : Option (List ℕ))
    (view : X → Table G) (header last : Record) (answer : Result X LoadFault)
    → ((text : List ℕ) → known ≡ Some text → Loads view answer (table_in geometry table text) × IfErr answer (ShowsRefused
    (records_in text) header last))
    → ShowsTable geometry table None view header last answer → ShowsTable geometry table known view header last answer
shows_reader geometry table None view header last answer given some = some
shows_reader geometry table (Some text) view header last answer given some = let is = given text refl in
    (records_in text, refl, is.0, is.1)

-- as many lists of records as readers
pub length-each : (known : List (Option (List ℕ))) (records : List (List Record)) → EachRecordsOf known records
    → length records ≡ length known
length-each [] [] h = refl
length-each [] (r ∷ rs) h = absurd h
length-each (k ∷ ks) [] h = absurd h
length-each (k ∷ ks) (r ∷ rs) h = ap suc (length-each ks rs h.1)

-- the records of some readers and of others, put together, are those of all
pub each-append : (known others : List (Option (List ℕ))) (records more : List (List Record)) → EachRecordsOf known records
    → EachRecordsOf others more
    → EachRecordsOf (known ++ others) (records ++ more)
each-append [] others [] more h k = k
each-append [] others (r ∷ rs) more h k = absurd h
each-append (x ∷ xs) others [] more h k = absurd h
each-append (x ∷ xs) others (r ∷ rs) more h k = (h.0, each-append xs others rs more h.1 k)

-- one reader more
pub each-more : (known : List (Option (List ℕ))) (n : ℕ) (records : List (List Record)) (next : List Record) → n < length known
    → EachRecordsOf (take n known) records → AreRecordsOf (get_or known n None) next
    → EachRecordsOf (take (n + 1) known) (records ++ next ∷ [])
each-more known n records next within h k = rw (take_more known n None within)
    (each-append (take n known) (get_or known n None ∷ []) records (next ∷ []) h (k, tt))

-- records of a reader, and of some readers
some-of : (known : Option (List ℕ)) → (records : List Record) × AreRecordsOf known records
some-of None = ([], tt)
some-of (Some text) = (records_in text, refl)

-- each reader has records: those of its bytes where they are known, or any
pub fill : (known : List (Option (List ℕ))) → (records : List (List Record)) × EachRecordsOf known records
fill [] = ([], tt)
fill (k ∷ ks) = let first = some-of k in let more = fill ks in (first.0 ∷ more.0, (first.1, more.1))
