-- Of each row the plan, then its work, then the text with the digits of its numbers.
use Rattle.std.specs.Prelude.{◌≡◌, refl, List, [], ◌∷◌, codes, Some}
use Rattle.std.specs.Fmt.{digits}
use Rattle.geometry_model.specs.Geometries.{Geometry}
use Rattle.geometry_model.specs.Labels.{labelled_matrix}
use Rattle.geometry_model.specs.declared.relations.Predicate.TheVariants.{Touches}
use Rattle.table_model.specs.Arguments.{denoted}
use Rattle.table_model.specs.Candidates.{candidates}
use Rattle.table_model.specs.Meanings.{Table}
use Rattle.table_model.specs.PlanExamples.{Query, squares, of, query, geometry, of_both, scan, plan}
use Rattle.table_model.specs.Places.{query_rows}
use Rattle.table_model.specs.Plans.{chosen}
use Rattle.table_model.specs.Work.{work}
use Rattle.table_model.specs.declared.plans.Plan.{Plan}
use Rattle.table_model.proofs.CondFolds.{cond_folds}
use Rattle.table_model.proofs.WorkFacts.{both, work_of_one, analyzed_is}
use Rattle.table_model.proofs.plan_examples.squares_with_squares.Goals as goal

abbrev tables : List (Table Geometry)
tables = squares ∷ []

abbrev touching_query : Query
touching_query = query (of 0 (codes "a") ∷ of 0 (codes "b") ∷ []) (of_both Touches ∷ [])

abbrev touching_plan : Plan
touching_plan = plan 6 (scan 0 ∷ scan 1 ∷ []) (0 ∷ [])

touching_chosen : chosen tables touching_query ≡ Some touching_plan
touching_chosen = simp cond_folds refl

touching_work : work labelled_matrix denoted tables touching_query touching_plan ≡ 4
touching_work = work_of_one (candidates denoted tables touching_query touching_plan.accesses) (query_rows tables touching_query) (of_both Touches) (λ rows. both rows (geometry 0) (geometry 1)) (λ rows. simp cond_folds refl)

pub returns-clause-text : goal.returns-clause-text
unfolding digits
returns-clause-text c = analyzed_is tables touching_query touching_plan 4 _ touching_chosen touching_work refl

abbrev crossed_query : Query
crossed_query = query (of 0 (codes "a") ∷ of 0 (codes "b") ∷ []) []

abbrev crossed_plan : Plan
crossed_plan = plan 6 (scan 0 ∷ scan 1 ∷ []) []

crossed_chosen : chosen tables crossed_query ≡ Some crossed_plan
crossed_chosen = refl

crossed_work : work labelled_matrix denoted tables crossed_query crossed_plan ≡ 0
crossed_work = refl

pub returns-clause-cross_join : goal.returns-clause-cross_join
unfolding digits
returns-clause-cross_join c = analyzed_is tables crossed_query crossed_plan 0 _ crossed_chosen crossed_work refl
