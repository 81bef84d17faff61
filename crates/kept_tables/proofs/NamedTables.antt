-- What a query gives depends on the tables of its references alone, and these are the tables that it names.
use mathlib.Core.Path.{fun_ext}
use Rattle.std.proofs.Common.{◌≡◌, ◌++◌, ap, ap₂, refl, ℕ, Bool, true, false, List, [], ◌∷◌, length, map, Option, None, Some, Ok, Err, IfOk}
use Rattle.std.specs.Prelude.{All, if◌then◌else◌, ⊤, Result, sum_by}
use Rattle.std.specs.List.{filter, list_any}
use Rattle.std.specs.Option.{option_map_or}
use Rattle.geometry_model.specs.Geometries.{Geometry}
use Rattle.std.proofs.lemmas.List.Elements.{All-cons, All-head, All-nil, All-push, All-tail}
use Rattle.kept_tables.specs.KeptLaws.{AgreeAt, AnswersAreOfNamed, OutcomesAreOfNamed, PlansAreOfNamed, RowsAreOfNamed, SameAt, database_of}
use Rattle.table_model.specs.Binding.{Checked, GeometryBinding, ◌>>=◌, bound_items, bound_reference, bound_references, bound_whole}
use Rattle.table_model.specs.Binding.{name_start, named_apart, next_reference, reference_at, references_after, statement, table_place}
use Rattle.table_model.specs.AnswerTexts.{answer}
use Rattle.table_model.specs.Arguments.{denoted}
use Rattle.table_model.specs.Candidates.{candidates_among}
use Rattle.table_model.specs.ExplainTexts.{analyze_text, explain_text}
use Rattle.table_model.specs.GeometryColumns.{ColumnShape, geometry_binding, geometry_writing}
use Rattle.table_model.specs.Meanings.{Row, all_true, is_true, meaning, product, referenced, search_condition, up_to}
use Rattle.table_model.specs.Places.{Choice, choices, limited, meant, rows_at}
use Rattle.table_model.specs.Plans.{chosen, first_of_least, lawful_accesses, lawful_plans, plan_of}
use Rattle.table_model.specs.RunOutcomes.{MatrixOf, OfQuery, RecordText, after, answer_text, kept_count, records_text, text_for}
use Rattle.table_model.specs.SpatialTables.{SpatialQuery, SpatialSchema, SpatialStatement, SpatialTable}
use Rattle.table_model.specs.Statements.{by_conjuncts}
use Rattle.table_model.specs.Texts.{same_name}
use Rattle.table_model.specs.Truths.{truth}
use Rattle.table_model.specs.Work.{candidate_work, counted, filters_of, keeps_order, work}
use Rattle.table_model.specs.declared.conditions.Reference.{Reference}
use Rattle.table_model.specs.declared.faults.QueryFault.{QueryFault}
use Rattle.table_model.specs.declared.faults.QueryFault.TheVariants as faults
use Rattle.table_model.specs.declared.plans.Plan.{Plan}
use Rattle.table_model.specs.declared.queries.Explain.{Explain}
use Rattle.table_model.specs.declared.queries.Explain.TheVariants as explains
use Rattle.table_model.specs.declared.queries.Query.{Query}
use Rattle.table_model.specs.declared.queries.WrittenReference.{WrittenReference}

-- ---- by references

-- tables that agree at the references are the same tables of them
same_referenced : (references : List Reference) (tables others : List SpatialTable) → AgreeAt references tables others
    → referenced tables references ≡ referenced others references
same_referenced [] tables others agree = refl
same_referenced (r ∷ more) tables others agree =
    let P : Reference → Type 0 = λ x. SameAt tables others x.table in
    ap₂ (λ (x : SpatialTable) (xs : List SpatialTable). x ∷ xs) (All-head P r more agree)
    (same_referenced more tables others (All-tail P r more agree))

module _ (matrix : MatrixOf) (tables others : List SpatialTable) (query : SpatialStatement)
    (agree : AgreeAt query.references tables others) where
  abbrev bound : SpatialQuery
  bound = by_conjuncts query

  same : referenced tables query.references ≡ referenced others query.references
  same = same_referenced query.references tables others agree

  -- so what is filtered of their product is the same
  abbrev filtered_of : List SpatialTable → List (List (Row Geometry))
  filtered_of named = filter (λ rows. is_true (truth matrix denoted rows (search_condition query))) (product named)

  same_meaning : meaning (truth matrix denoted) tables query ≡ meaning (truth matrix denoted) others query
  same_meaning = ap (λ named. if query.counts then filtered_of named else up_to query.limit (filtered_of named)) same

  abbrev selects : List SpatialTable → Choice → Bool
  selects named choice = all_true (truth matrix denoted) bound.conjuncts (rows_at named choice)

  same_meant : meant (truth matrix denoted) tables bound ≡ meant (truth matrix denoted) others bound
  same_meant = ap (λ named. limited bound (filter (selects named) (choices named))) same

  -- and so are the numbers of rows, by which a plan is chosen
  abbrev plans_of : List SpatialTable → List Plan
  plans_of named =
      map (plan_of (map (λ table. length table) named) bound.conjuncts) (lawful_accesses bound.references bound.conjuncts)

  same_plans : lawful_plans tables bound ≡ lawful_plans others bound
  same_plans = ap plans_of same

  same_chosen : chosen tables bound ≡ chosen others bound
  same_chosen = ap (λ named. first_of_least (λ plan. plan.cost) (plans_of named)) same

  -- and the candidates of each, and what they compute
  abbrev work_with : Plan → List SpatialTable → ℕ
  work_with plan named =
      sum_by (λ choice. candidate_work matrix denoted (filters_of bound plan) (rows_at named choice))
      (counted (selects named) (keeps_order plan.accesses) bound.counts bound.limit
      (candidates_among denoted bound.conjuncts named plan.accesses))

  same_work : (plan : Plan) → work matrix denoted tables bound plan ≡ work matrix denoted others bound plan
  same_work plan = ap (work_with plan) same

  -- and so is the text of the answer, whichever is asked for
  same_text : (record_text : RecordText) (definitions : SpatialSchema) (explain : Explain)
      → text_for explain record_text matrix (database_of definitions tables) query
      ≡ text_for explain record_text matrix (database_of definitions others) query
  same_text record_text definitions explains.No =
      ap (λ rows. records_text record_text (answer geometry_writing definitions bound rows)) same_meaning
  same_text record_text definitions explains.Plan = ap (λ plan. option_map_or (explain_text bound) plan []) same_chosen
  same_text record_text definitions explains.Analyze =
      ap₂ (λ (text : Plan → List ℕ) (plan : Option Plan). option_map_or text plan [])
      (fun_ext (λ plan. ap (λ n. analyze_text bound plan (kept_count n)) (same_work plan))) same_chosen

pub rows_are_of_named : RowsAreOfNamed
rows_are_of_named matrix tables others query agree =
    (same_meaning matrix tables others query agree, same_meant matrix tables others query agree)

pub plans_are_of_named : PlansAreOfNamed
plans_are_of_named matrix tables others query agree = (
  same_plans matrix tables others query agree,
  same_chosen matrix tables others query agree,
  same_work matrix tables others query agree,
)

pub answers_are_of_named : AnswersAreOfNamed
answers_are_of_named record_text matrix definitions tables others query agree =
    same_text matrix tables others query agree record_text definitions query.explain

-- ---- by names

-- what holds of each value of a first step, and of each value of the next step after it, holds of what both give
then_ok : {X Y : Type 0} (r : Checked X) (f : X → Checked Y) (Q : X → Type 0) (P : Y → Type 0)
    → IfOk r Q → ((x : X) → Q x → IfOk (f x) P) → IfOk (r >>= f) P
then_ok (Ok x) f Q P is next = next x is
then_ok (Err e) f Q P is next = tt

-- of some values nothing need be known
unknown : {X : Type 0} (r : Checked X) → IfOk r (λ x. ⊤)
unknown (Ok x) = tt
unknown (Err e) = tt

module _ (definitions : SpatialSchema) (P : ℕ → Type 0) where
  -- what is true of the place that a reference names, if it names one
  abbrev OfNamed : WrittenReference → Type 0
  OfNamed w = (place : ℕ) → table_place definitions w.table.text ≡ Some place → P place

  abbrev OfTable : Reference → Type 0
  OfTable r = P r.table

  -- is true of the table of the reference that is bound
  one : (w : WrittenReference) → OfNamed w → IfOk (bound_reference definitions w) OfTable
  one w named = at (table_place definitions w.table.text) named
    where
      at : (o : Option ℕ) → ((place : ℕ) → o ≡ Some place → P place) → IfOk (reference_at definitions w o) OfTable
      at (Some place) is = is place refl
      at None is = tt

  -- also where other references came before it
  next : (before : List Reference) (w : WrittenReference) → OfNamed w → IfOk (next_reference definitions before w) OfTable
  next before w named =
      then_ok (bound_reference definitions w) (named_apart before start) OfTable OfTable (one w named)
      (λ r is. apart r (list_any (λ other. same_name other.name r.name) before) is)
    where
      start : ℕ
      start = name_start w.table w.alias

      apart : (r : Reference) (taken : Bool) → P r.table → IfOk (if taken then Err (faults.SameName start) else Ok r) OfTable
      apart r true is = tt
      apart r false is = is

  -- and of the tables of all of them
  all_after : (before : List Reference) (ws : List WrittenReference) → All OfTable before → All OfNamed ws
      → IfOk (references_after definitions before ws) (All OfTable)
  all_after before [] earlier named = earlier
  all_after before (w ∷ more) earlier named =
      then_ok (next_reference definitions before w) (λ r. references_after definitions (before ++ r ∷ []) more)
      OfTable (All OfTable) (next before w (All-head OfNamed w more named))
      (λ r is. all_after (before ++ r ∷ []) more (All-push OfTable before r earlier is) (All-tail OfNamed w more named))

  -- so it is of the references of a query
  of_statement : {A B C D : Type 0} (how : GeometryBinding ColumnShape A B C D) (query : Query A C) → All OfNamed query.references
      → IfOk (statement how definitions query) (λ bound. All OfTable bound.references)
  of_statement how query named =
      then_ok (bound_references definitions query.references) _ (All OfTable) _
      (all_after [] query.references (All-nil OfTable) named)
      (λ references are. then_ok (bound_items how definitions references query.selection) _ (λ x. ⊤) _ (unknown _)
      (λ items u. then_ok (bound_whole how definitions references query.on) _ (λ x. ⊤) _ (unknown _)
      (λ on v. then_ok (bound_whole how definitions references query.condition) _ (λ x. ⊤) _ (unknown _) (λ condition w. are))))

-- the answer of a query that is bound is the same, and a fault is the same fault
pub outcomes_are_of_named : OutcomesAreOfNamed
outcomes_are_of_named record_text matrix written definitions tables others agree =
    go (statement geometry_binding definitions written)
    (of_statement definitions (SameAt tables others) geometry_binding written agree)
  where
    text : List SpatialTable → SpatialStatement → List ℕ
    text all query = answer_text record_text matrix (database_of definitions all) query

    go : (bound : Result SpatialStatement QueryFault) → IfOk bound (λ query. AgreeAt query.references tables others)
        → after OfQuery bound (λ query. Ok (text tables query)) ≡ after OfQuery bound (λ query. Ok (text others query))
    go (Ok query) agreed = ap Ok (answers_are_of_named record_text matrix definitions tables others query agreed)
    go (Err fault) agreed = refl
