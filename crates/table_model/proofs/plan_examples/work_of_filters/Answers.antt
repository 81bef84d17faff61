-- Of each row the plan, then its work, then the text with the digits of its numbers.
use Rattle.std.specs.Prelude.{◌≡◌, refl, ◌+◌, pos, if◌then◌else◌, List, [], ◌∷◌, sum, codes, Some}
use Rattle.std.specs.Fmt.{digits}
use Rattle.geometry_model.specs.Geometries.{Geometry}
use Rattle.geometry_model.specs.Labels.{labelled_matrix}
use Rattle.geometry_model.specs.declared.relations.Predicate.TheVariants.{Touches, Within}
use Rattle.table_model.specs.Arguments.{denoted}
use Rattle.table_model.specs.Candidates.{candidates}
use Rattle.table_model.specs.Meanings.{Table, is_true}
use Rattle.table_model.specs.PlanExamples.{Query, point_rows, square, of, query, key, key_is, geometry, with_literal, scan, probe, plan}
use Rattle.table_model.specs.Places.{query_rows}
use Rattle.table_model.specs.Plans.{chosen}
use Rattle.table_model.specs.Truths.{related, compared, order_of, field_at}
use Rattle.table_model.specs.Work.{work}
use Rattle.table_model.specs.declared.conditions.Comparison.TheVariants.{Less}
use Rattle.table_model.specs.declared.conditions.Cond.TheVariants.{Or, Not}
use Rattle.table_model.specs.declared.conditions.GeometryArgument.TheVariants as arguments
use Rattle.table_model.specs.declared.values.Value.TheVariants as values
use Rattle.table_model.specs.declared.plans.Plan.{Plan}
use Rattle.table_model.proofs.CondFolds.{cond_folds}
use Rattle.table_model.proofs.WorkFacts.{both, work_of_one, work_of_two, analyzed_is}
use Rattle.table_model.proofs.plan_examples.work_of_filters.Goals as goal

abbrev tables : List (Table Geometry)
tables = point_rows 1 100 ∷ []

abbrev never_query : Query
never_query = query (of 0 (codes "big") ∷ []) (key_is Less 0 0 ∷ Not (with_literal Within (square 0 0)) ∷ [])

abbrev never_plan : Plan
never_plan = plan 100 (scan 0 ∷ []) (0 ∷ 1 ∷ [])

never_chosen : chosen tables never_query ≡ Some never_plan
never_chosen = simp cond_folds refl

never_work : work labelled_matrix denoted tables never_query never_plan ≡ 0
never_work = work_of_two (candidates denoted tables never_query never_plan.accesses) (query_rows tables never_query) (key_is Less 0 0) (Not (with_literal Within (square 0 0))) (λ rows. 0 + (if is_true (compared Less (order_of (field_at rows (key 0)) (values.Integer (pos 0)))) then both rows (geometry 0) (arguments.Literal (square 0 0)) else 0)) (λ rows. simp cond_folds refl)

pub returns-clause-false_first : goal.returns-clause-false_first
unfolding digits
returns-clause-false_first c = analyzed_is tables never_query never_plan 0 _ never_chosen never_work refl

abbrev once_query : Query
once_query = query (of 0 (codes "big") ∷ []) (with_literal Touches (square 0 0) ∷ with_literal Within (square 0 0) ∷ [])

abbrev once_plan : Plan
once_plan = plan 14 (probe 0 0 ∷ []) (0 ∷ 1 ∷ [])

once_chosen : chosen tables once_query ≡ Some once_plan
once_chosen = simp cond_folds refl

once_work : work labelled_matrix denoted tables once_query once_plan ≡ 5
once_work = work_of_two (candidates denoted tables once_query once_plan.accesses) (query_rows tables once_query) (with_literal Touches (square 0 0)) (with_literal Within (square 0 0)) (λ rows. both rows (geometry 0) (arguments.Literal (square 0 0)) + (if is_true (related labelled_matrix Touches (denoted rows (geometry 0)) (denoted rows (arguments.Literal (square 0 0)))) then both rows (geometry 0) (arguments.Literal (square 0 0)) else 0)) (λ rows. simp cond_folds refl)

pub returns-clause-one_true : goal.returns-clause-one_true
unfolding digits
returns-clause-one_true c = analyzed_is tables once_query once_plan 5 _ once_chosen once_work refl

abbrev twice_query : Query
twice_query = query (of 0 (codes "big") ∷ []) (Or (with_literal Touches (square 0 0) ∷ with_literal Within (square 0 0) ∷ []) ∷ [])

abbrev twice_plan : Plan
twice_plan = plan 100 (scan 0 ∷ []) (0 ∷ [])

twice_chosen : chosen tables twice_query ≡ Some twice_plan
twice_chosen = simp cond_folds refl

twice_work : work labelled_matrix denoted tables twice_query twice_plan ≡ 200
twice_work = work_of_one (candidates denoted tables twice_query twice_plan.accesses) (query_rows tables twice_query) (Or (with_literal Touches (square 0 0) ∷ with_literal Within (square 0 0) ∷ [])) (λ rows. sum (both rows (geometry 0) (arguments.Literal (square 0 0)) ∷ both rows (geometry 0) (arguments.Literal (square 0 0)) ∷ [])) (λ rows. simp cond_folds refl)

pub returns-clause-two_in_one : goal.returns-clause-two_in_one
unfolding digits
returns-clause-two_in_one c = analyzed_is tables twice_query twice_plan 200 _ twice_chosen twice_work refl
