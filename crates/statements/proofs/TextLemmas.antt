-- The header and the rows of a statement, written in order.
use Rattle.std.proofs.Common.{◌≡◌, ◌++◌, ◌+◌, ℕ, [], ◌∷◌, Bool, true, false, List, Ok, arith, length, map, refl, sym, ◌∙◌, ap}
use Rattle.std.specs.Prelude.{codes}
use Rattle.std.specs.List.{concat}
use Rattle.std.proofs.lemmas.Simd.{map-map}
use Rattle.query_runs.proofs.RunLemmas.{bound-outcome, counted-text, listed-text, meant-text}
use Rattle.query_runs.specs.RecordTexts.{record_text}
use Rattle.query_runs.specs.Runs.{choice_text, planned_text}
use Rattle.statements.proofs.JoinedLines.{analyze_ends, explain_ends, lines_joined}
use Rattle.statements.specs.StatementLaws.{AnswersAreWritten}
use Rattle.statements.specs.StatementRows.{choice_record, first_phase, records_by}
use Rattle.statements.specs.StatementTexts.{header_by, header_text, row_text}
use Rattle.table_model.specs.AnswerTexts.{count_records, header}
use Rattle.table_model.specs.Arguments.{denoted}
use Rattle.table_model.specs.ExplainTexts.{analyze_text, explain_text}
use Rattle.table_model.specs.GeometryColumns.{geometry_writing}
use Rattle.table_model.specs.Places.{Choice, meant}
use Rattle.table_model.specs.RunOutcomes.{MatrixOf, kept_count}
use Rattle.table_model.specs.SpatialTables.{SpatialDatabase, SpatialQuery}
use Rattle.table_model.specs.Truths.{truth}
use Rattle.table_model.specs.Work.{work}
use Rattle.table_model.specs.declared.plans.Plan.{Plan}
use Rattle.table_model.specs.declared.queries.Explain.{Explain}
use Rattle.table_model.specs.declared.queries.Explain.TheVariants as explains

-- the text of the header and of the rows of a query that asks for this
text_by : Explain → Bool → MatrixOf → SpatialDatabase → SpatialQuery → Plan → List ℕ
text_by explain counts matrix database query plan =
    header_text explain (header_by explain counts database.definitions query)
    ++ concat (map (row_text explain)
    (records_by (first_phase explain counts) database query plan (meant (truth matrix denoted) database.tables query)
    (kept_count (work matrix denoted database.tables query plan)) []))

listed : (database : SpatialDatabase) (query : SpatialQuery) (choices : List Choice)
    → concat (map record_text (map (choice_record database query) choices)) ≡ concat (map (choice_text database query) choices)
listed database query choices = ap concat (map-map record_text (choice_record database query) choices)

text_is : (explain : Explain) (counts : Bool) (matrix : MatrixOf) (database : SpatialDatabase) (query : SpatialQuery)
    (plan : Plan) → query.counts ≡ counts
    → text_by explain counts matrix database query plan ≡ planned_text explain matrix database query plan
unfolding text_by
text_is explains.No true matrix database query plan is =
    let choices = meant (truth matrix denoted) database.tables query in
    let none : length choices + 0 ≡ length choices = omega arith in
    ap (λ n. record_text (codes "COUNT(*)" ∷ []) ++ concat (map record_text (count_records query.limit n))) none
    ∙ counted-text database query choices is ∙ meant-text matrix database query choices refl
text_is explains.No false matrix database query plan is =
    let choices = meant (truth matrix denoted) database.tables query in
    ap (λ l. record_text (header geometry_writing database.definitions query) ++ l) (listed database query choices)
    ∙ listed-text database query choices is ∙ meant-text matrix database query choices refl
text_is explains.Plan counts matrix database query plan is = lines_joined (explain_text query plan) (explain_ends query plan)
text_is explains.Analyze counts matrix database query plan is =
    let count = kept_count (work matrix denoted database.tables query plan) in
    lines_joined (analyze_text query plan count) (analyze_ends query plan count)

pub written_answer : AnswersAreWritten
unfolding text_by
written_answer matrix written database query plan bound first =
    bound-outcome matrix written database query plan bound first
    ∙ ap Ok (sym (text_is query.explain query.counts matrix database query plan refl))
