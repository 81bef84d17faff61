-- The outcome of a query over tables: the bytes of its answer, or why it has none. It is generic in the text of a record.
use Rattle.std.specs.Prelude.{ℕ, ◌-◌, ◌^◌, min, List, [], map, Result, Ok, Err}
use Rattle.std.specs.List.{concat}
use Rattle.std.specs.Option.{option_map_or}
use Rattle.geometry_model.specs.Dimensions.{Matrix}
use Rattle.geometry_model.specs.Geometries.{Geometry}
use Rattle.geometry_model.specs.GivenMatrix.{GivesMatrix}
use Rattle.table_model.specs.AnswerTexts.{answer}
use Rattle.table_model.specs.Binding.{statement}
use Rattle.table_model.specs.Arguments.{denoted}
use Rattle.table_model.specs.Databases.{load_tables}
use Rattle.table_model.specs.ExplainTexts.{analyze_text, explain_text}
use Rattle.table_model.specs.GeometryColumns.{geometry_binding, geometry_writing, read_geometry}
use Rattle.table_model.specs.Loading.{Record}
use Rattle.table_model.specs.Meanings.{meaning}
use Rattle.table_model.specs.Plans.{chosen}
use Rattle.table_model.specs.QueryReading.{query_of}
use Rattle.table_model.specs.Queries.{SelectQuery}
use Rattle.table_model.specs.SpatialTables.{SpatialDatabase, SpatialSchema, SpatialStatement, SpatialTable}
use Rattle.table_model.specs.Statements.{by_conjuncts}
use Rattle.table_model.specs.Truths.{truth}
use Rattle.table_model.specs.Work.{work}
use Rattle.table_model.specs.declared.faults.QueryFault.{QueryFault}
use Rattle.table_model.specs.declared.faults.TableFault.{TableFault}
use Rattle.table_model.specs.declared.plans.Plan.{Plan}
use Rattle.table_model.specs.declared.queries.Explain.{Explain}
use Rattle.table_model.specs.declared.queries.Explain.TheVariants as explains

-- ---- answers

-- a function from two geometries to a matrix, theirs or not
abbrev pub MatrixOf : Type 0
MatrixOf = Geometry → Geometry → Matrix

-- the fact holds for every function that gives the matrix of any two valid geometries (06-103r4, 6.1.15)
abbrev pub ByEveryMatrix : (MatrixOf → Type 0) → Type 0
ByEveryMatrix Fact = (matrix : MatrixOf) → GivesMatrix matrix → Fact matrix

-- how a record is written: a function from records to bytes
abbrev pub RecordText : Type 0
RecordText = Record → List ℕ

-- the text of some records, one after another
abbrev pub records_text : RecordText → List Record → List ℕ
records_text record_text records = concat (map record_text records)

-- the records that answer a SELECT: those of its meaning (SQL, the query)
abbrev pub select_records : MatrixOf → SpatialDatabase → SpatialStatement → List Record
select_records matrix database query =
    answer geometry_writing database.definitions (by_conjuncts query) (meaning (truth matrix denoted) database.tables query)

-- a count that stays at the greatest number of 64 bits
abbrev pub kept_count : ℕ → ℕ
kept_count n = min n (2 ^ 64 - 1)

-- the text of EXPLAIN ANALYZE, with the work of the plan
abbrev pub counted_text : MatrixOf → List SpatialTable → SpatialStatement → Plan → List ℕ
counted_text matrix tables query plan =
    analyze_text (by_conjuncts query) plan (kept_count (work matrix denoted tables (by_conjuncts query) plan))

-- a text of the chosen plan; a query of one or two references always has one
abbrev pub plan_text : List SpatialTable → SpatialStatement → (Plan → List ℕ) → List ℕ
plan_text tables query text = option_map_or text (chosen tables (by_conjuncts query)) []

-- the text of the answer of a query that asks for rows, for its plan, or for its plan and the work (SQL, the query)
abbrev pub text_for : Explain → RecordText → MatrixOf → SpatialDatabase → SpatialStatement → List ℕ
text_for explains.No record_text matrix database query = records_text record_text (select_records matrix database query)
text_for explains.Plan record_text matrix database query = plan_text database.tables query (explain_text (by_conjuncts query))
text_for explains.Analyze record_text matrix database query =
    plan_text database.tables query (counted_text matrix database.tables query)

-- the text of the answer of a query
abbrev pub answer_text : RecordText → MatrixOf → SpatialDatabase → SpatialStatement → List ℕ
answer_text record_text matrix database query = text_for query.explain record_text matrix database query

-- ---- outcomes

-- why a query over tables has no answer: the fault of its text or of its binding, or that of a table
pub data Refusal : Type 0 where
  OfQuery : QueryFault → Refusal
  OfTable : TableFault → Refusal

-- the next step, which gets the result of the first; or the fault of the first, as a refusal
abbrev pub after : {X Y E : Type 0} → (E → Refusal) → Result X E → (X → Result Y Refusal) → Result Y Refusal
after of (Ok x) next = next x
after of (Err e) next = Err (of e)

-- the text of the answer of a written query over a database, or the fault of binding it
abbrev pub query_outcome : RecordText → MatrixOf → SelectQuery → SpatialDatabase → Result (List ℕ) Refusal
query_outcome record_text matrix written database =
    after OfQuery (statement geometry_binding database.definitions written) (λ query. Ok (answer_text record_text matrix database query))

-- the text of the answer of a written query over the tables' records, or the first fault of loading or binding
abbrev pub loaded_outcome : RecordText → MatrixOf → SpatialSchema → List (List Record) → SelectQuery → Result (List ℕ) Refusal
loaded_outcome record_text matrix definitions records written =
    after OfTable (load_tables read_geometry definitions records)
    (λ tables. query_outcome record_text matrix written (record { definitions = definitions; tables = tables }))

-- the text of the answer of a query's text over the tables' records, or the first fault: of reading the query, then of loading
-- the tables, then of binding the query (SQL, the query; the order: this project's choice)
abbrev pub outcome : RecordText → MatrixOf → SpatialSchema → List (List Record) → List ℕ → Result (List ℕ) Refusal
outcome record_text matrix definitions records text =
    after OfQuery (query_of text) (loaded_outcome record_text matrix definitions records)
