-- The rows of a statement, as records: those of its query, their number, or the lines of its plan.
use Rattle.std.specs.Prelude.{◌==◌, ◌+◌, ℕ, Bool, true, false, if◌then◌else◌, List, [], ◌∷◌, length, map}
use Rattle.statements.specs.declared.phases.Phase.{Phase}
use Rattle.statements.specs.declared.phases.Phase.TheVariants as phases
use Rattle.table_model.specs.AnswerTexts.{count_records, record_of}
use Rattle.table_model.specs.Arguments.{denoted}
use Rattle.table_model.specs.ExplainTexts.{analyze_text, explain_text}
use Rattle.table_model.specs.GeometryColumns.{geometry_writing}
use Rattle.table_model.specs.Loading.{Record}
use Rattle.table_model.specs.Places.{Choice, meant, query_rows}
use Rattle.table_model.specs.RunOutcomes.{MatrixOf, kept_count}
use Rattle.table_model.specs.SpatialTables.{SpatialDatabase, SpatialQuery}
use Rattle.table_model.specs.Truths.{truth}
use Rattle.table_model.specs.Work.{work}
use Rattle.table_model.specs.declared.plans.Plan.{Plan}
use Rattle.table_model.specs.declared.queries.Explain.{Explain}
use Rattle.table_model.specs.declared.queries.Explain.TheVariants as explains

-- ---- lines

-- a byte before the lines of what comes after it
abbrev pub onto : ℕ → List (List ℕ) → List (List ℕ)
onto byte [] = (byte ∷ []) ∷ []
onto byte (line ∷ more) = (byte ∷ line) ∷ more

-- the lines of a text, each without the line feed that ends it
unfoldable pub lines : List ℕ → List (List ℕ)
lines [] = []
lines (byte ∷ more) = if byte == 10 then [] ∷ lines more else onto byte (lines more)

-- each as a record of one field
abbrev pub line_records : List ℕ → List Record
line_records text = map (λ line. line ∷ []) (lines text)

-- ---- rows

-- the record of a choice of places
abbrev pub choice_record : SpatialDatabase → SpatialQuery → Choice → Record
choice_record database query choice = record_of geometry_writing query (query_rows database.tables query choice)

-- whether a query asks for its rows or their number, and not for its plan
abbrev pub asks_for_rows : Explain → Bool
asks_for_rows explains.No = true
asks_for_rows explains.Plan = false
asks_for_rows explains.Analyze = false

-- what a statement gives next, before its first row: rows, their number, its plan, or its plan and the work
abbrev pub first_phase : Explain → Bool → Phase
first_phase explains.No true = phases.Count 0
first_phase explains.No false = phases.Rows
first_phase explains.Plan counts = phases.Plan
first_phase explains.Analyze counts = phases.Analysis

-- the records of a query with a plan, where these choices of places are its rows, this number is all work, and this is what is left of
-- the text of EXPLAIN (SQL, the query)
abbrev pub records_by : Phase → SpatialDatabase → SpatialQuery → Plan → List Choice → ℕ → List ℕ → List Record
records_by phases.Rows database query plan choices count text = map (choice_record database query) choices
records_by (phases.Count counted) database query plan choices count text = count_records query.limit (length choices + counted)
records_by phases.Plan database query plan choices count text = line_records (explain_text query plan)
records_by phases.Analysis database query plan choices count text = line_records (analyze_text query plan count)
records_by phases.Lines database query plan choices count text = line_records text
records_by phases.Nothing database query plan choices count text = []

-- the records of a query with a plan (SQL, the query)
abbrev pub records_of : MatrixOf → SpatialDatabase → SpatialQuery → Plan → List Record
records_of matrix database query plan =
    records_by (first_phase query.explain query.counts) database query plan (meant (truth matrix denoted) database.tables query)
    (kept_count (work matrix denoted database.tables query plan)) []
