-- The work of plans with one filter or two, and the text of EXPLAIN ANALYZE from its parts.
use Rattle.std.specs.Prelude.{◌≡◌, ℕ, ◌+◌, Bool, true, false, ◌&&◌, if◌then◌else◌, is_some, List, [], ◌∷◌, map, filter, sum_by, Some, option_map}
use Rattle.std.proofs.Common.{arith, ap, ◌∙◌}
use Rattle.std.proofs.lemmas.List.Sums.{sum_by-cons}
use mathlib.Core.Path.{fun_ext}
use Rattle.geometry_model.specs.Geometries.{Geometry}
use Rattle.geometry_model.specs.Labels.{labelled_matrix}
use Rattle.table_model.specs.AnswerTexts.{answer}
use Rattle.table_model.specs.Arguments.{denoted}
use Rattle.table_model.specs.Candidates.{candidates}
use Rattle.table_model.specs.ExplainTexts.{analyze_text}
use Rattle.table_model.specs.Meanings.{Table, is_true, referenced}
use Rattle.table_model.specs.PlanExamples.{Query, Condition, analyzed, returned}
use Rattle.table_model.specs.GeometryColumns.{ColumnShape, geometry_writing}
use Rattle.table_model.specs.Loading.{Record}
use Rattle.table_model.specs.Places.{Choice, choices, query_rows, is_selected, limited}
use Rattle.table_model.specs.Plans.{chosen}
use Rattle.table_model.specs.Truths.{Rows, truth}
use Rattle.table_model.specs.Work.{evaluated, computed, candidate_work, work, work_of, up_to_passing, work_to_row}
use Rattle.table_model.specs.declared.conditions.GeometryArgument.{GeometryArgument}
use Rattle.table_model.specs.declared.conditions.Cond.{Cond}
use Rattle.table_model.specs.declared.definitions.TableDef.{TableDef}
use Rattle.table_model.specs.declared.plans.Plan.{Plan}

-- 1 where both arguments are there
abbrev pub both : Rows Geometry → GeometryArgument Geometry → GeometryArgument Geometry → ℕ
both rows a b = if is_some (denoted rows a) && is_some (denoted rows b) then 1 else 0

-- one filter is always evaluated
pub one_filter : {A : Type 0} (number : Cond A → ℕ) (test : Cond A → Bool) (c : Cond A) → sum_by number (evaluated test (c ∷ [])) ≡ number c
one_filter {A = A} number test c = go (test c)
  where
    go : (b : Bool) → sum_by number (c ∷ (if b then [] else [])) ≡ number c
    go true = omega (arith, sum_by-cons number c [])
    go false = omega (arith, sum_by-cons number c [])

-- the second of two filters is evaluated where the first is true
pub two_filters : {A : Type 0} (number : Cond A → ℕ) (test : Cond A → Bool) (c d : Cond A) → sum_by number (evaluated test (c ∷ d ∷ [])) ≡ number c + (if test c then number d else 0)
two_filters {A = A} number test c d = go (test c)
  where
    go : (b : Bool) → sum_by number (c ∷ (if b then evaluated test (d ∷ []) else [])) ≡ number c + (if b then number d else 0)
    go true = sum_by-cons number c (evaluated test (d ∷ [])) ∙ ap (λ n. number c + n) (one_filter number test d)
    go false = sum_by-cons number c []

-- two sums over one list
pub same_sums : {X : Type 0} (f g : X → ℕ) (xs : List X) → ((x : X) → f x ≡ g x) → sum_by f xs ≡ sum_by g xs
same_sums f g xs h = ap (λ k. sum_by k xs) (fun_ext h)

-- the work of candidates with one filter, which computes the number that g gives at the rows that are there
pub work_of_one : (list : List Choice) (at : Choice → Rows Geometry) (c : Condition) (g : Rows Geometry → ℕ) → ((rows : Rows Geometry) → computed denoted rows c ≡ g rows)
    → sum_by (λ choice. candidate_work labelled_matrix denoted (c ∷ []) (at choice)) list ≡ sum_by (λ choice. g (at choice)) list
work_of_one list at c g h =
    same_sums (λ choice. candidate_work labelled_matrix denoted (c ∷ []) (at choice)) (λ choice. g (at choice)) list
    (λ choice. one_filter (computed denoted (at choice)) (λ e. is_true (truth labelled_matrix denoted (at choice) e)) c ∙ h (at choice))

-- the work of candidates with two filters
pub work_of_two : (list : List Choice) (at : Choice → Rows Geometry) (c d : Condition) (g : Rows Geometry → ℕ)
    → ((rows : Rows Geometry) → computed denoted rows c + (if is_true (truth labelled_matrix denoted rows c) then computed denoted rows d else 0) ≡ g rows)
    → sum_by (λ choice. candidate_work labelled_matrix denoted (c ∷ d ∷ []) (at choice)) list ≡ sum_by (λ choice. g (at choice)) list
work_of_two list at c d g h =
    same_sums (λ choice. candidate_work labelled_matrix denoted (c ∷ d ∷ []) (at choice)) (λ choice. g (at choice)) list
    (λ choice. two_filters (computed denoted (at choice)) (λ e. is_true (truth labelled_matrix denoted (at choice) e)) c d ∙ h (at choice))

-- the text of EXPLAIN ANALYZE, by the chosen plan and its work
pub analyzed_is : (tables : List (Table Geometry)) (q : Query) (plan : Plan) (n : ℕ) (text : List ℕ) → chosen tables q ≡ Some plan → work labelled_matrix denoted tables q plan ≡ n → analyze_text q plan n ≡ text → analyzed tables q ≡ Some text
analyzed_is tables q plan n text p w t = ap (option_map (λ plan. analyze_text q plan (work labelled_matrix denoted tables q plan))) p ∙ ap (λ k. Some (analyze_text q plan k)) w ∙ ap Some t

-- the work up to the n-th row, where a candidate gives one exactly where this test passes it
pub work_up_to : (tables : List (Table Geometry)) (q : Query) (plan : Plan) (passes : Choice → Bool) (n m : ℕ)
    → ((choice : Choice) → is_selected (truth labelled_matrix denoted) tables q choice ≡ passes choice)
    → work_of labelled_matrix denoted tables q plan (up_to_passing passes n (candidates denoted tables q plan.accesses)) ≡ m
    → work_to_row labelled_matrix denoted tables q plan n ≡ m
work_up_to tables q plan passes n m h e =
    ap (λ t. work_of labelled_matrix denoted tables q plan (up_to_passing t n (candidates denoted tables q plan.accesses))) (fun_ext h) ∙ e

-- the records of an answer, where ON and WHERE select a choice exactly where this test passes it
pub returned_by : (definitions : List (TableDef ColumnShape)) (tables : List (Table Geometry)) (q : Query) (passes : Choice → Bool) (records : List Record)
    → ((choice : Choice) → is_selected (truth labelled_matrix denoted) tables q choice ≡ passes choice)
    → answer geometry_writing definitions q (map (query_rows tables q) (limited q (filter passes (choices (referenced tables q.references))))) ≡ records
    → returned definitions tables q ≡ records
returned_by definitions tables q passes records h e =
    ap (λ t. answer geometry_writing definitions q (map (query_rows tables q) (limited q (filter t (choices (referenced tables q.references)))))) (fun_ext h) ∙ e
