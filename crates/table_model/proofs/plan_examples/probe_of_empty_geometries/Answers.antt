-- Of each row the plan, then its work, then the text with the digits of its numbers.
use Rattle.std.specs.Prelude.{◌≡◌, refl, List, [], ◌∷◌, codes, Some}
use Rattle.std.specs.Fmt.{digits}
use Rattle.geometry_model.specs.Geometries.{Geometry, MultiPoint}
use Rattle.geometry_model.specs.Labels.{labelled_matrix}
use Rattle.geometry_model.specs.declared.relations.Predicate.TheVariants.{Equals}
use Rattle.table_model.specs.Arguments.{denoted}
use Rattle.table_model.specs.Candidates.{candidates}
use Rattle.table_model.specs.Meanings.{Table}
use Rattle.table_model.specs.PlanExamples.{Query, empties, of, query, geometry, with_literal, probe, plan}
use Rattle.table_model.specs.Places.{query_rows}
use Rattle.table_model.specs.Plans.{chosen}
use Rattle.table_model.specs.Work.{work}
use Rattle.table_model.specs.declared.conditions.GeometryArgument.TheVariants as arguments
use Rattle.table_model.specs.declared.plans.Plan.{Plan}
use Rattle.table_model.proofs.CondFolds.{cond_folds}
use Rattle.table_model.proofs.WorkFacts.{both, work_of_one, analyzed_is}
use Rattle.table_model.proofs.plan_examples.probe_of_empty_geometries.Goals as goal

abbrev tables : List (Table Geometry)
tables = empties ∷ []

abbrev empty_query : Query
empty_query = query (of 0 (codes "e") ∷ []) (with_literal Equals (MultiPoint []) ∷ [])

abbrev empty_plan : Plan
empty_plan = plan 4 (probe 0 0 ∷ []) (0 ∷ [])

empty_chosen : chosen tables empty_query ≡ Some empty_plan
empty_chosen = simp cond_folds refl

empty_work : work labelled_matrix denoted tables empty_query empty_plan ≡ 3
empty_work = work_of_one (candidates denoted tables empty_query empty_plan.accesses) (query_rows tables empty_query) (with_literal Equals (MultiPoint [])) (λ rows. both rows (geometry 0) (arguments.Literal (MultiPoint []))) (λ rows. simp cond_folds refl)

pub returns-clause-text : goal.returns-clause-text
unfolding digits
returns-clause-text c = analyzed_is tables empty_query empty_plan 3 _ empty_chosen empty_work refl
