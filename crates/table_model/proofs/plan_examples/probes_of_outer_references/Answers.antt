-- Of each row the plan, then its work, then the text with the digits of its numbers.
use Rattle.std.specs.Prelude.{◌≡◌, refl, ℕ, ◌+◌, if◌then◌else◌, List, [], ◌∷◌, Some}
use Rattle.std.specs.Fmt.{digits}
use Rattle.geometry_model.specs.Geometries.{Geometry}
use Rattle.geometry_model.specs.Labels.{labelled_matrix}
use Rattle.geometry_model.specs.declared.relations.Predicate.TheVariants.{Intersects}
use Rattle.table_model.specs.Arguments.{denoted}
use Rattle.table_model.specs.Candidates.{candidates}
use Rattle.table_model.specs.Meanings.{Table, is_true}
use Rattle.table_model.specs.PlanExamples.{point_rows, squares, near_and_joined, square, geometry, with_literal, of_both, scan, probe, plan}
use Rattle.table_model.specs.Places.{query_rows}
use Rattle.table_model.specs.Plans.{chosen}
use Rattle.table_model.specs.Truths.{Rows, related}
use Rattle.table_model.specs.Work.{work}
use Rattle.table_model.specs.declared.conditions.GeometryArgument.TheVariants as arguments
use Rattle.table_model.specs.declared.plans.Plan.{Plan}
use Rattle.table_model.proofs.CondFolds.{cond_folds}
use Rattle.table_model.proofs.WorkFacts.{both, work_of_two, analyzed_is}
use Rattle.table_model.proofs.plan_examples.probes_of_outer_references.Goals as goal

-- the point is near, and then the second predicate is computed
abbrev number : Rows Geometry → ℕ
number rows =
    both rows (geometry 0) (arguments.Literal (square 0 0))
    + (if is_true (related labelled_matrix Intersects (denoted rows (geometry 0)) (denoted rows (arguments.Literal (square 0 0)))) then both rows (geometry 0) (geometry 1) else 0)

abbrev text_tables : List (Table Geometry)
text_tables = point_rows 1 100 ∷ squares ∷ []

abbrev text_plan : Plan
text_plan = plan 30 (scan 1 ∷ probe 0 0 ∷ []) (0 ∷ 1 ∷ [])

text_chosen : chosen text_tables near_and_joined ≡ Some text_plan
text_chosen = simp cond_folds refl

text_work : work labelled_matrix denoted text_tables near_and_joined text_plan ≡ 16
text_work = work_of_two (candidates denoted text_tables near_and_joined text_plan.accesses) (query_rows text_tables near_and_joined) (with_literal Intersects (square 0 0)) (of_both Intersects) number (λ rows. simp cond_folds refl)

pub returns-clause-text : goal.returns-clause-text
unfolding digits
returns-clause-text c = analyzed_is text_tables near_and_joined text_plan 16 _ text_chosen text_work refl

abbrev rounded_tables : List (Table Geometry)
rounded_tables = point_rows 1 19 ∷ squares ∷ []

abbrev rounded_plan : Plan
rounded_plan = plan 9 (probe 0 0 ∷ scan 1 ∷ []) (0 ∷ 1 ∷ [])

rounded_chosen : chosen rounded_tables near_and_joined ≡ Some rounded_plan
rounded_chosen = simp cond_folds refl

rounded_work : work labelled_matrix denoted rounded_tables near_and_joined rounded_plan ≡ 16
rounded_work = work_of_two (candidates denoted rounded_tables near_and_joined rounded_plan.accesses) (query_rows rounded_tables near_and_joined) (with_literal Intersects (square 0 0)) (of_both Intersects) number (λ rows. simp cond_folds refl)

pub returns-clause-rounded : goal.returns-clause-rounded
unfolding digits
returns-clause-rounded c = analyzed_is rounded_tables near_and_joined rounded_plan 16 _ rounded_chosen rounded_work refl
