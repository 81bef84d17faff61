-- Of each row the plan, then its work, then the text with the digits of its numbers.
use Rattle.std.specs.Prelude.{◌≡◌, refl, ◌+◌, pos, if◌then◌else◌, List, [], ◌∷◌, codes, Some}
use Rattle.std.specs.Fmt.{digits}
use Rattle.geometry_model.specs.Geometries.{Geometry}
use Rattle.geometry_model.specs.Labels.{labelled_matrix}
use Rattle.geometry_model.specs.declared.relations.Predicate.TheVariants.{Intersects}
use Rattle.table_model.specs.Arguments.{denoted}
use Rattle.table_model.specs.Candidates.{candidates}
use Rattle.table_model.specs.Meanings.{Table, is_true}
use Rattle.table_model.specs.PlanExamples.{Query, point_rows, squares, of, query, key, key_is, geometry, of_both, scan, probe, plan}
use Rattle.table_model.specs.Places.{query_rows}
use Rattle.table_model.specs.Plans.{chosen}
use Rattle.table_model.specs.Truths.{compared, order_of, field_at}
use Rattle.table_model.specs.Work.{work}
use Rattle.table_model.specs.declared.conditions.Comparison.TheVariants.{NotEqual}
use Rattle.table_model.specs.declared.values.Value.TheVariants as values
use Rattle.table_model.specs.declared.plans.Plan.{Plan}
use Rattle.table_model.proofs.CondFolds.{cond_folds}
use Rattle.table_model.proofs.WorkFacts.{both, work_of_two, analyzed_is}
use Rattle.table_model.proofs.plan_examples.points_with_squares.Goals as goal

abbrev tables : List (Table Geometry)
tables = point_rows 1 100 ∷ squares ∷ []

abbrev joined_query : Query
joined_query = query (of 0 (codes "b") ∷ of 1 (codes "s") ∷ []) (of_both Intersects ∷ key_is NotEqual 0 2 ∷ [])

abbrev joined_plan : Plan
joined_plan = plan 30 (scan 1 ∷ probe 0 0 ∷ []) (1 ∷ 0 ∷ [])

joined_chosen : chosen tables joined_query ≡ Some joined_plan
joined_chosen = simp cond_folds refl

joined_work : work labelled_matrix denoted tables joined_query joined_plan ≡ 8
joined_work = work_of_two (candidates denoted tables joined_query joined_plan.accesses) (query_rows tables joined_query) (key_is NotEqual 0 2) (of_both Intersects) (λ rows. 0 + (if is_true (compared NotEqual (order_of (field_at rows (key 0)) (values.Integer (pos 2)))) then both rows (geometry 0) (geometry 1) else 0)) (λ rows. simp cond_folds refl)

pub returns-clause-text : goal.returns-clause-text
unfolding digits
returns-clause-text c = analyzed_is tables joined_query joined_plan 8 _ joined_chosen joined_work refl
