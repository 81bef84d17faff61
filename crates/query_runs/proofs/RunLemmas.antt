-- What the exits of a run say.
use Rattle.std.proofs.Common.{◌≡◌, ◌≢◌, ◌<◌, arith, inl, inr, ℕ, Bool, true, false, List, ◌∷◌, [], ◌++◌, codes, length, map, Option, None, Some, Result, Ok, Err, IfErr, refl, sym, ◌∙◌, ap, subst, append-nil}
use Rattle.std.specs.Prelude.{IsErrAnd, IsOk, zero, suc, decimal}
use Rattle.std.specs.List.{concat}
use Rattle.std.specs.Option.{option_map_or}
use Rattle.std.proofs.lemmas.List.{length-map}
use Rattle.std.proofs.lemmas.Simd.{map-map}
use Rattle.std.proofs.KnownBytes.{Keeps-refl}
use Rattle.grammar_laws.proofs.Filtering.{bound_of_statement, meaning_by_conjuncts}
use Rattle.geometry_model.specs.Geometries.{Geometry}
use Rattle.streams.specs.Sinks.{AppendsFront}
use Rattle.table_model.proofs.PlaceFacts.{meant_gives_limited}
use Rattle.table_model.specs.AnswerTexts.{answer, header, record_of}
use Rattle.table_model.specs.Arguments.{denoted}
use Rattle.table_model.specs.Binding.{Checked, ◌>>=◌, binding, statement}
use Rattle.table_model.specs.Databases.{load_tables}
use Rattle.table_model.specs.GeometryColumns.{ColumnShape, geometry_binding, geometry_writing, read_geometry}
use Rattle.table_model.specs.Loading.{Record}
use Rattle.table_model.specs.Places.{Choice, meant, query_rows}
use Rattle.table_model.specs.Plans.{chosen}
use Rattle.table_model.specs.QueryReading.{query_of}
use Rattle.table_model.specs.ExplainTexts.{explain_text}
use Rattle.table_model.specs.Queries.{SelectQuery}
use Rattle.table_model.specs.RunOutcomes.{MatrixOf, Refusal, OfQuery, OfTable, after, answer_text, counted_text, loaded_outcome, outcome, query_outcome, text_for}
use Rattle.table_model.specs.SpatialTables.{SpatialDatabase, SpatialQuery, SpatialSchema, SpatialStatement}
use Rattle.table_model.specs.Statements.{by_conjuncts}
use Rattle.table_model.specs.Truths.{truth}
use Rattle.table_model.specs.declared.conditions.ColumnPlace.{ColumnPlace}
use Rattle.table_model.specs.declared.conditions.GeometryArgument.{GeometryArgument}
use Rattle.table_model.specs.declared.faults.LoadFault.{LoadFault}
use Rattle.table_model.specs.declared.faults.LoadFault.TheVariants as load
use Rattle.table_model.specs.declared.faults.QueryFault.{QueryFault}
use Rattle.table_model.specs.declared.faults.QueryFault.TheVariants as query
use Rattle.table_model.specs.declared.faults.TableFault.{TableFault}
use Rattle.table_model.specs.declared.plans.Plan.{Plan}
use Rattle.table_model.specs.declared.queries.Explain.{Explain}
use Rattle.table_model.specs.declared.queries.Explain.TheVariants as explains
use Rattle.table_model.specs.declared.queries.WrittenColumn.{WrittenColumn}
use Rattle.table_model.specs.declared.queries.WrittenGeometry.{WrittenGeometry}
use Rattle.feature_table.specs.LastRecords.{ShowsFault}
use Rattle.feature_table.specs.Outcomes.{IsFailure, is_of_reading}
use Rattle.feature_table.specs.Tables.{EarlierLoad}
use Rattle.failures.specs.Faults.{load_wants_memory, memory_or, of_put, of_query, of_table, wants_memory}
use Rattle.query_runs.specs.Runs.{Counts, IsOfTables, IsReached, RefusesTable, Runs, ShowsRun, answer_work, bound_text, choice_text, count_text, loaded_work, none_reached, planned_text, planned_work, query_work, rows_of_choices, rows_text, work_outcome}
use Rattle.query_runs.specs.RecordTexts.{record_text}
use Rattle.failures.specs.declared.run_fault.Fault.{Fault}
use Rattle.failures.specs.declared.run_fault.Fault.TheVariants as faults
use Rattle.streams.specs.declared.put_fault.PutFault.{PutFault}
use Rattle.streams.specs.declared.put_fault.PutFault.TheVariants as put

-- ---- faults

-- memory that ran out before anything was put
pub memory-none : (A : Type 0) (outcome : Result (List ℕ) Refusal) (reached : ℕ → Type 0) (old : Option (List ℕ)) → Runs {A = A} (Err faults.Memory) outcome reached old old
memory-none A outcome reached old = inl (Keeps-refl old)

-- a fault that isn't running out of memory is another one
no-memory : (e : QueryFault) → wants_memory e ≡ false → e ≢ query.OutOfMemory
no-memory e other same = let both : wants_memory query.OutOfMemory ≡ false = subst (λ x. wants_memory x ≡ false) same other in cc both

-- a fault of a step on the query, before anything was put: running out of memory, or another
refused-by : (A : Type 0) {X : Type 0} (memory : Bool) (e : QueryFault) (answer : Result X QueryFault) (next : X → Result (List ℕ) Refusal) (reached : ℕ → Type 0) (old : Option (List ℕ))
    → wants_memory e ≡ memory → (e ≢ query.OutOfMemory → answer ≡ Err e) → Runs {A = A} (Err (memory_or memory (faults.Query e))) (after OfQuery answer next) reached old old
refused-by A true e answer next reached old is given = memory-none A (after OfQuery answer next) reached old
refused-by A false e answer next reached old is given =
    (ap (λ r. after OfQuery r next) (given (no-memory e is)), Keeps-refl old)

-- the same, with the fault telling whether it is running out of memory
pub query-refused : (A : Type 0) {X : Type 0} (e : QueryFault) (answer : Result X QueryFault) (next : X → Result (List ℕ) Refusal) (reached : ℕ → Type 0) (old : Option (List ℕ))
    → (e ≢ query.OutOfMemory → answer ≡ Err e) → Runs {A = A} (Err (of_query e)) (after OfQuery answer next) reached old old
query-refused A e answer next reached old given = refused-by A (wants_memory e) e answer next reached old refl given

-- a fault of putting the answer
pub put-refused : (A : Type 0) (e : PutFault) (outcome : Result (List ℕ) Refusal) (reached : ℕ → Type 0) (text : List ℕ) (old new : Option (List ℕ))
    → outcome ≡ Ok text → AppendsFront old new text → Runs {A = A} (Err (of_put e)) outcome reached old new
put-refused A put.Sink outcome reached text old new is front = (text, is, front)
put-refused A put.Memory outcome reached text old new is front = inr (text, is, front)

-- a result that is a certain fault
pub at-fault : {A : Type 0} (r : Result A Fault) (f : Fault) (outcome : Result (List ℕ) Refusal) (reached : ℕ → Type 0) (old new : Option (List ℕ))
    → IsErrAnd r (λ x. x ≡ f) → Runs {A = A} (Err f) outcome reached old new → Runs r outcome reached old new
at-fault (Ok a) f outcome reached old new is fact = absurd is
at-fault {A = A} (Err e) f outcome reached old new is fact = subst (λ x. Runs {A = A} (Err x) outcome reached old new) (sym is) fact

-- what holds of the fault that it is
pub of-fault : {A : Type 0} (r : Result A Fault) (f : Fault) (Is : Fault → Type 0) → IsErrAnd r (λ x. x ≡ f) → Is f → IfErr r Is
of-fault (Ok a) f Is is fact = absurd is
of-fault (Err e) f Is is fact = subst Is (sym is) fact

-- a fault of the query names no table
pub query-of-tables : (count : ℕ) (e : QueryFault) → IsOfTables count (of_query e)
query-of-tables count e = go (wants_memory e)
  where
    go : (memory : Bool) → IsOfTables count (memory_or memory (faults.Query e))
    go true = tt
    go false = tt

-- nor does one of putting the answer
pub put-of-tables : (count : ℕ) (e : PutFault) → IsOfTables count (of_put e)
put-of-tables count put.Sink = tt
put-of-tables count put.Memory = tt

-- and a fault of loading names a table that is one of these
pub load-of-tables : (count : ℕ) (f : TableFault) → f.table < count → IsOfTables count (of_table f)
load-of-tables count f within = go (load_wants_memory f.fault)
  where
    go : (memory : Bool) → IsOfTables count (memory_or memory (faults.Load f.table f.fault))
    go true = tt
    go false = within

-- the records that show a fault of loading were read last
pub load-shows : (records : List (List Record)) (header last : Record) (f : TableFault) → ShowsFault records header last f
    → ShowsRun records header last (of_table f)
load-shows records header last f shows = go (load_wants_memory f.fault)
  where
    go : (memory : Bool) → ShowsRun records header last (memory_or memory (faults.Load f.table f.fault))
    go true = tt
    go false = shows

-- a fault that names no table is shown by none
pub none-show : {A : Type 0} (r : Result A Fault) (records : List (List Record)) (header last : Record) → IfErr r (IsOfTables 0)
    → IfErr r (ShowsRun records header last)
none-show (Ok a) records header last names = tt
none-show (Err (faults.Load table f)) records header last names = absurd (omega (arith, names))
none-show (Err _) records header last names = tt

-- ---- texts

-- the header and the records of the rows are the records of the answer
pub listed-text : (database : SpatialDatabase) (bound : SpatialQuery) (choices : List Choice) → bound.counts ≡ false
    → record_text (header geometry_writing database.definitions bound) ++ concat (map (choice_text database bound) choices)
    ≡ rows_text database bound (rows_of_choices database bound choices)
listed-text database bound choices is =
    let rows = query_rows database.tables bound in
    let listed = record_of geometry_writing bound in
    let these : map (choice_text database bound) choices ≡ map record_text (map listed (map rows choices)) =
    sym (map-map (λ r. record_text (listed r)) rows choices)
    ∙ sym (map-map record_text listed (map rows choices)) in
    ap (λ l. record_text (header geometry_writing database.definitions bound) ++ concat l) these ∙ rw is refl

-- the header of COUNT(*) and the record of the number are the records of the answer
pub counted-text : (database : SpatialDatabase) (bound : SpatialQuery) (choices : List Choice) → bound.counts ≡ true
    → count_text bound.limit (length choices) ≡ rows_text database bound (rows_of_choices database bound choices)
counted-text database bound choices is =
    ap (count_text bound.limit) (sym (length-map choices (query_rows database.tables bound))) ∙ rw is refl

-- the record of the number, but under LIMIT 0
pub number-text : (limit : Option ℕ) (count : ℕ) → limit ≢ Some 0 → record_text (codes "COUNT(*)" ∷ []) ++ record_text (decimal count ∷ []) ≡ count_text limit count
number-text None count other = ap (λ l. record_text (codes "COUNT(*)" ∷ []) ++ l) (sym (append-nil (record_text (decimal count ∷ []))))
number-text (Some zero) count other = absurd (other refl)
number-text (Some (suc n)) count other = ap (λ l. record_text (codes "COUNT(*)" ∷ []) ++ l) (sym (append-nil (record_text (decimal count ∷ []))))

-- the rows at the places that a query means are those that its conjuncts pass, under LIMIT
pub meant-text : (matrix : MatrixOf) (database : SpatialDatabase) (bound : SpatialQuery) (choices : List Choice)
    → choices ≡ meant (truth matrix denoted) database.tables bound
    → rows_text database bound (rows_of_choices database bound choices) ≡ bound_text matrix database bound
meant-text matrix database bound choices are =
    ap (rows_text database bound)
    (ap (map (query_rows database.tables bound)) are
    ∙ meant_gives_limited (truth matrix denoted) database.tables bound)

-- ---- queries

-- the answer of a query of which this is the chosen plan
chosen-text : (matrix : MatrixOf) (database : SpatialDatabase) (stated : SpatialStatement) (plan : Plan) (explain : Explain) → chosen database.tables (by_conjuncts stated) ≡ Some plan
    → text_for explain record_text matrix database stated ≡ planned_text explain matrix database (by_conjuncts stated) plan
chosen-text matrix database stated plan explains.No is =
    ap (rows_text database (by_conjuncts stated)) (meaning_by_conjuncts Geometry (GeometryArgument Geometry) ColumnPlace matrix denoted database.tables stated)
chosen-text matrix database stated plan explains.Plan is = ap (λ p. option_map_or (explain_text (by_conjuncts stated)) p []) is
chosen-text matrix database stated plan explains.Analyze is = ap (λ p. option_map_or (counted_text matrix database.tables stated) p []) is

-- what a query is bound to is the query as it is written, by its conjuncts
stated-after : {X : Type 0} (s : Checked SpatialStatement) (bound : SpatialQuery) (of : SpatialStatement → X) (planned : SpatialQuery → X) → (s >>= (λ stated. Ok (by_conjuncts stated))) ≡ Ok bound
    → ((stated : SpatialStatement) → by_conjuncts stated ≡ bound → of stated ≡ planned bound) → after OfQuery s (λ q. Ok (of q)) ≡ Ok (planned bound)
stated-after (Ok stated) bound of planned is same =
    let these : by_conjuncts stated ≡ bound = cc is in
    ap Ok (same stated these)
stated-after (Err e) bound of planned is same = cc is

-- what a query is bound to is its statement by its conjuncts
bound-stated : (written : SelectQuery) (definitions : SpatialSchema) (bound : SpatialQuery) → binding geometry_binding definitions written ≡ Ok bound
    → (statement geometry_binding definitions written >>= (λ stated. Ok (by_conjuncts stated))) ≡ Ok bound
bound-stated written definitions bound is =
    sym (bound_of_statement ColumnShape WrittenGeometry (GeometryArgument Geometry) WrittenColumn ColumnPlace geometry_binding definitions written) ∙ is

-- the outcome of a query that is bound, of which this is the chosen plan
pub bound-outcome : (matrix : MatrixOf) (written : SelectQuery) (database : SpatialDatabase) (bound : SpatialQuery) (plan : Plan) → binding geometry_binding database.definitions written ≡ Ok bound
    → chosen database.tables bound ≡ Some plan → query_outcome record_text matrix written database ≡ Ok (planned_text bound.explain matrix database bound plan)
bound-outcome matrix written database bound plan is first =
    stated-after (statement geometry_binding database.definitions written) bound (λ q. answer_text record_text matrix database q)
    (λ b. planned_text b.explain matrix database b plan) (bound-stated written database.definitions bound is)
    (λ stated same.
    chosen-text matrix database stated plan stated.explain (ap (chosen database.tables) same ∙ first)
    ∙ ap (λ b. planned_text b.explain matrix database b plan) same)

-- and its work
pub bound-work : (matrix : MatrixOf) (written : SelectQuery) (database : SpatialDatabase) (bound : SpatialQuery) (plan : Plan) → binding geometry_binding database.definitions written ≡ Ok bound
    → chosen database.tables bound ≡ Some plan → query_work matrix written database ≡ Ok (planned_work bound.explain matrix database.tables bound plan)
bound-work matrix written database bound plan is first =
    stated-after (statement geometry_binding database.definitions written) bound (λ q. answer_work matrix database.tables q)
    (λ b. planned_work b.explain matrix database.tables b plan) (bound-stated written database.definitions bound is)
    (λ stated same.
    ap (λ p. option_map_or (planned_work stated.explain matrix database.tables (by_conjuncts stated)) p 0) (ap (chosen database.tables) same ∙ first)
    ∙ ap (λ b. planned_work b.explain matrix database.tables b plan) same)

same-error : {X : Type 0} (r : Checked X) (one other : QueryFault) → r ≡ Err one → r ≡ Err other → one ≡ other
same-error r one other is also = cc

-- a query that isn't bound isn't stated either, by the same fault
stated-fault : (bound : Checked SpatialQuery) (s : Checked SpatialStatement) (e : QueryFault) → bound ≡ (s >>= (λ stated. Ok (by_conjuncts stated))) → bound ≡ Err e → s ≡ Err e
stated-fault bound (Ok stated) e are is = cc
stated-fault bound (Err other) e are is = ap Err (same-error bound other e are is)

-- a query that isn't bound
pub unbound-runs : {A : Type 0} (r : Result A Fault) (e : QueryFault) (matrix : MatrixOf) (written : SelectQuery) (database : SpatialDatabase) (old : Option (List ℕ)) → IsErrAnd r (λ x. x ≡ of_query e)
    → (e ≢ query.OutOfMemory → binding geometry_binding database.definitions written ≡ Err e) → Runs r (query_outcome record_text matrix written database) none_reached old old
unbound-runs {A = A} r e matrix written database old is given =
    at-fault r (of_query e) (query_outcome record_text matrix written database) none_reached old old is
    (query-refused A e (statement geometry_binding database.definitions written) (λ q. Ok (answer_text record_text matrix database q)) none_reached old
    (λ other. stated-fault (binding geometry_binding database.definitions written) (statement geometry_binding database.definitions written) e
    (bound_of_statement ColumnShape WrittenGeometry (GeometryArgument Geometry) WrittenColumn ColumnPlace geometry_binding database.definitions written) (given other)))

-- ---- tables

-- a fault of loading that is neither running out of memory nor failed reading is one that a definition gives
no-failure : (f : LoadFault) → load_wants_memory f ≡ false → is_of_reading f ≡ false → ¬ (IsFailure f)
no-failure f other unread (inl same) = let both : is_of_reading load.ReadFailed ≡ false = subst (λ x. is_of_reading x ≡ false) same unread in cc both
no-failure f other unread (inr same) = let both : load_wants_memory load.OutOfMemory ≡ false = subst (λ x. load_wants_memory x ≡ false) same other in cc both

-- a fault of loading a table, before anything was put: running out of memory, failed reading, or another
table-refused-by : (A : Type 0) {X : Type 0} (memory unread : Bool) (table : ℕ) (f : LoadFault) (answer : Result X TableFault) (next : X → Result (List ℕ) Refusal) (reached : ℕ → Type 0)
    (old : Option (List ℕ)) → load_wants_memory f ≡ memory → is_of_reading f ≡ unread → (¬ (IsFailure f) → answer ≡ Err (record { table = table; fault = f })) → reached table
    → Runs {A = A} (Err (memory_or memory (faults.Load table f))) (after OfTable answer next) reached old old
table-refused-by A true unread table f answer next reached old is of given there = memory-none A (after OfTable answer next) reached old
table-refused-by A false true table f answer next reached old is of given there = (
  subst (λ b. RefusesTable b (reached table) (after OfTable answer next) (record { table = table; fault = f })) (sym of) there,
  Keeps-refl old,
)
table-refused-by A false false table f answer next reached old is of given there =
    let same : after OfTable answer next ≡ Err (OfTable (record { table = table; fault = f })) = ap (λ r. after OfTable r next) (given (no-failure f is of)) in (
      subst (λ b. RefusesTable b (reached table) (after OfTable answer next) (record { table = table; fault = f })) (sym of) same,
      Keeps-refl old,
    )

-- the same of a result, with the fault telling which of the three it is
pub table-refused : {A X : Type 0} (r : Result A Fault) (f : TableFault) (answer : Result X TableFault) (next : X → Result (List ℕ) Refusal) (reached : ℕ → Type 0) (old : Option (List ℕ))
    → IsErrAnd r (λ x. x ≡ of_table f) → (¬ (IsFailure f.fault) → answer ≡ Err f) → reached f.table → Runs r (after OfTable answer next) reached old old
table-refused {A = A} r f answer next reached old is given there =
    at-fault r (of_table f) (after OfTable answer next) reached old old is
    (table-refused-by A (load_wants_memory f.fault) (is_of_reading f.fault) f.table f.fault answer next reached old refl refl given there)

-- ---- runs

-- the outcome of a run once the query is read, and once the tables are loaded
read-outcome : (matrix : MatrixOf) (definitions : SpatialSchema) (records : List (List Record)) (text : List ℕ) (written : SelectQuery)
    → query_of text ≡ Ok written → outcome record_text matrix definitions records text ≡ loaded_outcome record_text matrix definitions records written
read-outcome matrix definitions records text written is = ap (λ r. after OfQuery r (loaded_outcome record_text matrix definitions records)) is

-- once the tables are loaded, the outcome is that of the query over them
loaded-is : (matrix : MatrixOf) (database : SpatialDatabase) (definitions : SpatialSchema) (records : List (List Record)) (written : SelectQuery)
    → load_tables read_geometry definitions records ≡ Ok database.tables → database.definitions ≡ definitions
    → query_outcome record_text matrix written database ≡ loaded_outcome record_text matrix definitions records written
loaded-is matrix database definitions records written loaded same =
    ap (λ ds. query_outcome record_text matrix written (record { definitions = ds; tables = database.tables })) same
    ∙ sym (ap (λ r. after OfTable r (λ tables. query_outcome record_text matrix written (record { definitions = definitions; tables = tables }))) loaded)

-- a query that isn't read
pub unread-runs : {A : Type 0} (r : Result A Fault) (e : QueryFault) (matrix : MatrixOf) (definitions : SpatialSchema) (records : List (List Record)) (text : List ℕ) (old : Option (List ℕ))
    → IsErrAnd r (λ x. x ≡ of_query e) → (e ≢ query.OutOfMemory → query_of text ≡ Err e)
    → Runs r (outcome record_text matrix definitions records text) (IsReached definitions records text) old old
unread-runs {A = A} r e matrix definitions records text old is given =
    at-fault r (of_query e) (outcome record_text matrix definitions records text) (IsReached definitions records text) old old is
    (query-refused A e (query_of text) (loaded_outcome record_text matrix definitions records) (IsReached definitions records text) old given)

-- a table that isn't loaded: the query has been read, and each table before it has loaded
pub unloaded-runs : {A : Type 0} (r : Result A Fault) (f : TableFault) (matrix : MatrixOf) (definitions : SpatialSchema) (records : List (List Record)) (text : List ℕ) (written : SelectQuery)
    (old : Option (List ℕ)) → IsErrAnd r (λ x. x ≡ of_table f) → query_of text ≡ Ok written → (¬ (IsFailure f.fault) → load_tables read_geometry definitions records ≡ Err f)
    → f.table < length definitions → EarlierLoad read_geometry definitions records f.table
    → Runs r (outcome record_text matrix definitions records text) (IsReached definitions records text) old old
unloaded-runs r f matrix definitions records text written old is read given within earlier =
    let accepted : IsOk (query_of text) = subst (λ x. IsOk x) (sym read) refl in
    subst (λ o. Runs r o (IsReached definitions records text) old old) (sym (read-outcome matrix definitions records text written read))
    (table-refused r f (load_tables read_geometry definitions records)
    (λ tables. query_outcome record_text matrix written (record { definitions = definitions; tables = tables })) (IsReached definitions records text) old is given (accepted, within, earlier))

-- a table that is refused where none is read may be refused where some are
refuses-more : (unread : Bool) (reached : Type 0) (outcome : Result (List ℕ) Refusal) (fault : TableFault) → RefusesTable unread ⊥ outcome fault → RefusesTable unread reached outcome fault
refuses-more true reached outcome fault is = absurd is
refuses-more false reached outcome fault is = is

-- what is said of a run that reads no table holds also where tables are read
reaches-more : {A : Type 0} (r : Result A Fault) (outcome : Result (List ℕ) Refusal) (reached : ℕ → Type 0) (old new : Option (List ℕ)) → Runs r outcome none_reached old new
    → Runs r outcome reached old new
reaches-more (Ok a) outcome reached old new fact = fact
reaches-more (Err (faults.Query f)) outcome reached old new fact = fact
reaches-more (Err (faults.Load table f)) outcome reached old new fact =
    (refuses-more (is_of_reading f) (reached table) outcome (record { table = table; fault = f }) fact.0, fact.1)
reaches-more (Err faults.Sink) outcome reached old new fact = fact
reaches-more (Err faults.Memory) outcome reached old new fact = fact

-- a run over tables that have loaded is that of the query over them
pub loaded-runs : {A : Type 0} (r : Result A Fault) (matrix : MatrixOf) (database : SpatialDatabase) (definitions : SpatialSchema) (records : List (List Record)) (text : List ℕ) (written : SelectQuery)
    (old new : Option (List ℕ)) → query_of text ≡ Ok written → load_tables read_geometry definitions records ≡ Ok database.tables → database.definitions ≡ definitions
    → Runs r (query_outcome record_text matrix written database) none_reached old new
    → Runs r (outcome record_text matrix definitions records text) (IsReached definitions records text) old new
loaded-runs r matrix database definitions records text written old new is loaded same fact =
    reaches-more r (outcome record_text matrix definitions records text) (IsReached definitions records text) old new
    (subst (λ o. Runs r o none_reached old new)
    (loaded-is matrix database definitions records written loaded same ∙ sym (read-outcome matrix definitions records text written is)) fact)

-- ---- work

-- the work of a run over tables that have loaded is that of the query over them
pub loaded-counts : (r : Result ℕ Fault) (matrix : MatrixOf) (database : SpatialDatabase) (definitions : SpatialSchema) (records : List (List Record)) (text : List ℕ) (written : SelectQuery)
    → query_of text ≡ Ok written → load_tables read_geometry definitions records ≡ Ok database.tables → database.definitions ≡ definitions
    → Counts r (query_work matrix written database) → Counts r (work_outcome matrix definitions records text)
loaded-counts r matrix database definitions records text written is loaded same fact =
    let tables : query_work matrix written database ≡ loaded_work matrix definitions records written =
    ap (λ ds. query_work matrix written (record { definitions = ds; tables = database.tables })) same
    ∙ sym (ap (λ t. after OfTable t (λ tables. query_work matrix written (record { definitions = definitions; tables = tables }))) loaded) in
    subst (Counts r) (tables ∙ sym (ap (λ q. after OfQuery q (loaded_work matrix definitions records)) is)) fact

-- where a run ends in a fault nothing is said of its work
pub no-count : (r : Result ℕ Fault) (f : Fault) (work : Result ℕ Refusal) → IsErrAnd r (λ x. x ≡ f) → Counts r work
no-count (Ok n) f work is = absurd is
no-count (Err e) f work is = tt
