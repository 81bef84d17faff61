-- Of each row the plan, then its work, then the text with the digits of its numbers.
use Rattle.std.specs.Prelude.{◌≡◌, refl, List, [], ◌∷◌, sum, codes, Some}
use Rattle.std.specs.Fmt.{digits}
use Rattle.geometry_model.specs.Geometries.{Geometry}
use Rattle.geometry_model.specs.Labels.{labelled_matrix}
use Rattle.geometry_model.specs.declared.relations.Predicate.TheVariants.{Disjoint, Intersects}
use Rattle.table_model.specs.Arguments.{denoted}
use Rattle.table_model.specs.Candidates.{candidates}
use Rattle.table_model.specs.Meanings.{Table}
use Rattle.table_model.specs.PlanExamples.{Query, point_rows, square, of, query, key_is, geometry, with_literal, scan, plan}
use Rattle.table_model.specs.Places.{query_rows}
use Rattle.table_model.specs.Plans.{chosen}
use Rattle.table_model.specs.Work.{work}
use Rattle.table_model.specs.declared.conditions.Comparison.TheVariants.{Greater}
use Rattle.table_model.specs.declared.conditions.Cond.TheVariants.{Or}
use Rattle.table_model.specs.declared.conditions.GeometryArgument.TheVariants as arguments
use Rattle.table_model.specs.declared.plans.Plan.{Plan}
use Rattle.table_model.proofs.CondFolds.{cond_folds}
use Rattle.table_model.proofs.WorkFacts.{both, work_of_one, analyzed_is}
use Rattle.table_model.proofs.plan_examples.scans_of_points.Goals as goal

abbrev tables : List (Table Geometry)
tables = point_rows 1 100 ∷ []

abbrev or_query : Query
or_query = query (of 0 (codes "big") ∷ []) (Or (key_is Greater 0 99 ∷ with_literal Intersects (square 0 0) ∷ []) ∷ [])

abbrev or_plan : Plan
or_plan = plan 100 (scan 0 ∷ []) (0 ∷ [])

or_chosen : chosen tables or_query ≡ Some or_plan
or_chosen = simp cond_folds refl

or_work : work labelled_matrix denoted tables or_query or_plan ≡ 100
or_work = work_of_one (candidates denoted tables or_query or_plan.accesses) (query_rows tables or_query) (Or (key_is Greater 0 99 ∷ with_literal Intersects (square 0 0) ∷ [])) (λ rows. sum (0 ∷ both rows (geometry 0) (arguments.Literal (square 0 0)) ∷ [])) (λ rows. simp cond_folds refl)

pub returns-clause-under_or : goal.returns-clause-under_or
unfolding digits
returns-clause-under_or c = analyzed_is tables or_query or_plan 100 _ or_chosen or_work refl

abbrev disjoint_query : Query
disjoint_query = query (of 0 (codes "big") ∷ []) (with_literal Disjoint (square 0 0) ∷ [])

abbrev disjoint_plan : Plan
disjoint_plan = plan 100 (scan 0 ∷ []) (0 ∷ [])

disjoint_chosen : chosen tables disjoint_query ≡ Some disjoint_plan
disjoint_chosen = simp cond_folds refl

disjoint_work : work labelled_matrix denoted tables disjoint_query disjoint_plan ≡ 100
disjoint_work = work_of_one (candidates denoted tables disjoint_query disjoint_plan.accesses) (query_rows tables disjoint_query) (with_literal Disjoint (square 0 0)) (λ rows. both rows (geometry 0) (arguments.Literal (square 0 0))) (λ rows. simp cond_folds refl)

pub returns-clause-disjoint : goal.returns-clause-disjoint
unfolding digits
returns-clause-disjoint c = analyzed_is tables disjoint_query disjoint_plan 100 _ disjoint_chosen disjoint_work refl
