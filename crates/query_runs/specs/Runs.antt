-- What `run` returns and writes: the outcome of a query's text over the records of its tables, or why there is none.
use Rattle.std.specs.Prelude.{◌≡◌, ◌<◌, ◌⊎◌, ⊤, ℕ, Bool, true, false, IfOk, IsOk, List, ◌∷◌, [], codes, length, map, Option, Some, Result, Ok, Err, IfErr}
use Rattle.std.specs.Option.{option_map_or}
use Rattle.std.specs.Io.KnownBytes.{Appends, Keeps}
use Rattle.geometry_model.specs.Geometries.{Geometry}
use Rattle.basics.specs.Counts.{one_more}
use Rattle.streams.specs.Sinks.{AppendsFront}
use Rattle.table_model.specs.AnswerTexts.{answer, count_records, record_of}
use Rattle.table_model.specs.Arguments.{denoted}
use Rattle.table_model.specs.Binding.{statement}
use Rattle.table_model.specs.Databases.{load_tables}
use Rattle.table_model.specs.ExplainTexts.{analyze_text, explain_text}
use Rattle.table_model.specs.GeometryColumns.{geometry_binding, geometry_writing, read_geometry}
use Rattle.table_model.specs.Loading.{Record}
use Rattle.table_model.specs.Meanings.{Row, passing_rows}
use Rattle.table_model.specs.Places.{Choice, limited, query_rows}
use Rattle.table_model.specs.Plans.{chosen}
use Rattle.table_model.specs.Queries.{SelectQuery}
use Rattle.table_model.specs.QueryReading.{query_of}
use Rattle.table_model.specs.RunOutcomes.{ByEveryMatrix, MatrixOf, Refusal, OfQuery, OfTable, after, kept_count, outcome, query_outcome, records_text}
use Rattle.table_model.specs.SpatialTables.{SpatialDatabase, SpatialQuery, SpatialSchema, SpatialStatement, SpatialTable}
use Rattle.table_model.specs.Statements.{by_conjuncts}
use Rattle.table_model.specs.Truths.{truth}
use Rattle.table_model.specs.Work.{work}
use Rattle.table_model.specs.declared.faults.TableFault.{TableFault}
use Rattle.table_model.specs.declared.plans.Plan.{Plan}
use Rattle.table_model.specs.declared.queries.Explain.{Explain}
use Rattle.table_model.specs.declared.queries.Explain.TheVariants as explains
use Rattle.feature_table.specs.LastRecords.{ShowsFault}
use Rattle.feature_table.specs.Outcomes.{is_of_reading}
use Rattle.feature_table.specs.Tables.{EachRecordsOf, EarlierLoad, records_in}
use Rattle.query_runs.specs.RecordTexts.{record_text}
use Rattle.failures.specs.declared.run_fault.Fault.{Fault}
use Rattle.failures.specs.declared.run_fault.Fault.TheVariants as faults

-- ---- texts

-- the text of the answer of a query that asks for rows, where these choices of rows are its meaning
abbrev pub rows_text : SpatialDatabase → SpatialQuery → List (List (Row Geometry)) → List ℕ
rows_text database query rows = records_text record_text (answer geometry_writing database.definitions query rows)

-- the text of the answer of a bound query that asks for rows, by its conjuncts
abbrev pub bound_text : MatrixOf → SpatialDatabase → SpatialQuery → List ℕ
bound_text matrix database query = rows_text database query (limited query (passing_rows (truth matrix denoted) database.tables query))

-- the rows at choices of places
abbrev pub rows_of_choices : SpatialDatabase → SpatialQuery → List Choice → List (List (Row Geometry))
rows_of_choices database query choices = map (query_rows database.tables query) choices

-- the text of the record of a choice of places
abbrev pub choice_text : SpatialDatabase → SpatialQuery → Choice → List ℕ
choice_text database query choice = record_text (record_of geometry_writing query (query_rows database.tables query choice))

-- the text of the answer of COUNT(*), where there are this many rows
abbrev pub count_text : Option ℕ → ℕ → List ℕ
count_text limit count = records_text record_text ((codes "COUNT(*)" ∷ []) ∷ count_records limit count)

-- ---- plans

-- the work of a bound query with a plan, as a count of 64 bits: none under EXPLAIN, which prints the plan alone
abbrev pub planned_work : Explain → MatrixOf → List SpatialTable → SpatialQuery → Plan → ℕ
planned_work explains.No matrix tables query plan = kept_count (work matrix denoted tables query plan)
planned_work explains.Plan matrix tables query plan = 0
planned_work explains.Analyze matrix tables query plan = kept_count (work matrix denoted tables query plan)

-- what a bound query with a plan writes: rows, the plan, or the plan and the work (SQL, the query)
abbrev pub planned_text : Explain → MatrixOf → SpatialDatabase → SpatialQuery → Plan → List ℕ
planned_text explains.No matrix database query plan = bound_text matrix database query
planned_text explains.Plan matrix database query plan = explain_text query plan
planned_text explains.Analyze matrix database query plan = analyze_text query plan (kept_count (work matrix denoted database.tables query plan))

-- ---- work

-- the work of a query: that of its chosen plan, and none under EXPLAIN; a query of one or two references always has a plan
abbrev pub answer_work : MatrixOf → List SpatialTable → SpatialStatement → ℕ
answer_work matrix tables query =
    option_map_or (planned_work query.explain matrix tables (by_conjuncts query)) (chosen tables (by_conjuncts query)) 0

-- the work of a written query over a database, or the fault of binding it
abbrev pub query_work : MatrixOf → SelectQuery → SpatialDatabase → Result ℕ Refusal
query_work matrix written database =
    after OfQuery (statement geometry_binding database.definitions written) (λ query. Ok (answer_work matrix database.tables query))

-- the work of a written query over the tables' records, or the first fault: of loading, then of binding
abbrev pub loaded_work : MatrixOf → SpatialSchema → List (List Record) → SelectQuery → Result ℕ Refusal
loaded_work matrix definitions records written =
    after OfTable (load_tables read_geometry definitions records)
    (λ tables. query_work matrix written (record { definitions = definitions; tables = tables }))

-- the work of a query's text over the tables' records, or the first fault, in the order of `outcome`
abbrev pub work_outcome : MatrixOf → SpatialSchema → List (List Record) → List ℕ → Result ℕ Refusal
work_outcome matrix definitions records text =
    after OfQuery (query_of text) (loaded_work matrix definitions records)

-- ---- runs

-- reading this table may have failed: the query's text is in the grammar, the table is one of the schema, and each table before it
-- has loaded
abbrev pub IsReached : SpatialSchema → List (List Record) → List ℕ → ℕ → Type 0
IsReached definitions records text table =
    IsOk (query_of text) × (table < length definitions) × EarlierLoad read_geometry definitions records table

-- a table is refused: where reading it failed, it may have been reached; otherwise the outcome is its fault
abbrev pub RefusesTable : Bool → Type 0 → Result (List ℕ) Refusal → TableFault → Type 0
RefusesTable true reached outcome fault = reached
RefusesTable false reached outcome fault = outcome ≡ Err (OfTable fault)

-- the outcome is a text, and a beginning of it was written
abbrev pub PutsFront : Result (List ℕ) Refusal → Option (List ℕ) → Option (List ℕ) → Type 0
PutsFront outcome old new = (text : List ℕ) × (outcome ≡ Ok text) × AppendsFront old new text

-- what a run promises. Ok: the outcome is a text and exactly it was written. A fault of the query or a table: it is the outcome, or
-- reading the table failed; nothing was written. A fault of the sink: the outcome is a text and a beginning of it was written. Out of
-- memory: nothing, or such a beginning
abbrev pub Runs : {A : Type 0} → Result A Fault → Result (List ℕ) Refusal → (ℕ → Type 0) → Option (List ℕ) → Option (List ℕ) → Type 0
Runs (Ok a) outcome reached old new = (text : List ℕ) × (outcome ≡ Ok text) × Appends old new text
Runs (Err (faults.Query f)) outcome reached old new = (outcome ≡ Err (OfQuery f)) × Keeps old new
Runs (Err (faults.Load table f)) outcome reached old new = RefusesTable (is_of_reading f) (reached table) outcome (record { table = table; fault = f }) × Keeps old new
Runs (Err faults.Sink) outcome reached old new = PutsFront outcome old new
Runs (Err faults.Memory) outcome reached old new = Keeps old new ⊎ PutsFront outcome old new

-- no table: a query over a loaded database reads none
abbrev pub none_reached : ℕ → Type 0
none_reached table = ⊥

-- what a run over a loaded database promises, for every function that gives the matrix (SQL, the query; 06-103r4, 6.1.15)
abbrev pub ReturnsQuery : {A : Type 0} → Result A Fault → SpatialDatabase → SelectQuery → Option (List ℕ) → Option (List ℕ) → Type 0
ReturnsQuery result database query old new =
    ByEveryMatrix (λ matrix. Runs result (query_outcome record_text matrix query database) none_reached old new)

-- what a run over the tables' records promises, for every function that gives the matrix (SQL, the query; 06-103r4, 6.1.15)
abbrev pub RunsOver : {A : Type 0} → Result A Fault → SpatialSchema → List (List Record) → List ℕ → Option (List ℕ) → Option (List ℕ) → Type 0
RunsOver result definitions records text old new =
    ByEveryMatrix (λ matrix. Runs result (outcome record_text matrix definitions records text) (IsReached definitions records text) old new)

-- if a call returns a number, it is the outcome
abbrev pub Counts : Result ℕ Fault → Result ℕ Refusal → Type 0
Counts result outcome = IfOk result (λ work. outcome ≡ Ok work)

-- if a run over a loaded database returns a number, it is the query's work, for every function that gives the matrix (06-103r4, 6.1.15)
abbrev pub CountsQuery : Result ℕ Fault → SpatialDatabase → SelectQuery → Type 0
CountsQuery result database query = ByEveryMatrix (λ matrix. Counts result (query_work matrix query database))

-- if a run over the tables' records returns a number, it is the work of the chosen plan, or 0 under EXPLAIN (06-103r4, 6.1.15)
abbrev pub CountsOver : Result ℕ Fault → SpatialSchema → List (List Record) → List ℕ → Type 0
CountsOver result definitions records text = ByEveryMatrix (λ matrix. Counts result (work_outcome matrix definitions records text))

-- a fault of loading names a table whose place is less than this number
abbrev pub IsOfTables : ℕ → Fault → Type 0
IsOfTables count (faults.Load table f) = table < count
IsOfTables count (faults.Query f) = ⊤
IsOfTables count faults.Sink = ⊤
IsOfTables count faults.Memory = ⊤

-- the header and the record of the table's fault in which a run ends
abbrev pub ShowsRun : List (List Record) → Record → Record → Fault → Type 0
ShowsRun records header last (faults.Load table f) = ShowsFault records header last (record { table = table; fault = f })
ShowsRun records header last (faults.Query f) = ⊤
ShowsRun records header last faults.Sink = ⊤
ShowsRun records header last faults.Memory = ⊤

-- a sink's count of failures after a run: one more where the sink failed
abbrev pub count_after : {A : Type 0} → ℕ → Result A Fault → ℕ
count_after old (Err faults.Sink) = one_more old
count_after old _ = old

-- what a run over readers promises: of the records that `csv` reads where bytes are known, else of records that exist
pub record RunsReaders (result : Result ℕ Fault) (definitions : SpatialSchema) (readers : List (Option (List ℕ))) (text : List ℕ) (old new : Option (List ℕ)) (before after : ℕ) : Type 0 where
  pub texts : (texts : List (List ℕ)) → readers ≡ map Some texts → RunsOver result definitions (map records_in texts) text old new
  pub work : (texts : List (List ℕ)) → readers ≡ map Some texts → CountsOver result definitions (map records_in texts) text
  pub records : (records : List (List Record)) × EachRecordsOf readers records × RunsOver result definitions records text old new × CountsOver result definitions records text
  pub failures : after ≡ count_after before result
  pub table : IfErr result (IsOfTables (length definitions))
