-- Of each row the plan, then its work, then the text with the digits of its numbers.
use Rattle.std.specs.Prelude.{◌≡◌, refl, List, [], ◌∷◌, codes, Some}
use Rattle.std.specs.Fmt.{digits}
use Rattle.geometry_model.specs.Geometries.{Geometry}
use Rattle.geometry_model.specs.Labels.{labelled_matrix}
use Rattle.geometry_model.specs.declared.relations.Predicate.TheVariants.{Intersects}
use Rattle.table_model.specs.Arguments.{denoted}
use Rattle.table_model.specs.Candidates.{candidates}
use Rattle.table_model.specs.Meanings.{Table}
use Rattle.table_model.specs.PlanExamples.{Query, point_rows, square, of, query, geometry, with_literal, probe, plan}
use Rattle.table_model.specs.Places.{query_rows}
use Rattle.table_model.specs.Plans.{chosen}
use Rattle.table_model.specs.Work.{work}
use Rattle.table_model.specs.declared.conditions.GeometryArgument.TheVariants as arguments
use Rattle.table_model.specs.declared.plans.Plan.{Plan}
use Rattle.table_model.proofs.CondFolds.{cond_folds}
use Rattle.table_model.proofs.WorkFacts.{both, work_of_one, analyzed_is}
use Rattle.table_model.proofs.plan_examples.probe_of_points.Goals as goal

abbrev tables : List (Table Geometry)
tables = point_rows 1 100 ∷ []

abbrev probed_query : Query
probed_query = query (of 0 (codes "big") ∷ []) (with_literal Intersects (square 0 0) ∷ [])

abbrev probed_plan : Plan
probed_plan = plan 14 (probe 0 0 ∷ []) (0 ∷ [])

probed_chosen : chosen tables probed_query ≡ Some probed_plan
probed_chosen = simp cond_folds refl

probed_work : work labelled_matrix denoted tables probed_query probed_plan ≡ 4
probed_work = work_of_one (candidates denoted tables probed_query probed_plan.accesses) (query_rows tables probed_query) (with_literal Intersects (square 0 0)) (λ rows. both rows (geometry 0) (arguments.Literal (square 0 0))) (λ rows. simp cond_folds refl)

pub returns-clause-text : goal.returns-clause-text
unfolding digits
returns-clause-text c = analyzed_is tables probed_query probed_plan 4 _ probed_chosen probed_work refl
