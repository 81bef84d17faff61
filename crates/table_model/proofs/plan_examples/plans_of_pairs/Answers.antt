-- Of each row the plan, then its work, then the text with the digits of its numbers.
use Rattle.std.specs.Prelude.{◌≡◌, refl, ℕ, ◌+◌, pos, if◌then◌else◌, List, [], ◌∷◌, Some}
use Rattle.std.specs.Fmt.{digits}
use Rattle.geometry_model.specs.Geometries.{Geometry}
use Rattle.geometry_model.specs.Labels.{labelled_matrix}
use Rattle.geometry_model.specs.declared.relations.Predicate.TheVariants.{Intersects}
use Rattle.table_model.specs.Arguments.{denoted}
use Rattle.table_model.specs.Candidates.{candidates}
use Rattle.table_model.specs.Meanings.{Table, is_true}
use Rattle.table_model.specs.PlanExamples.{point_rows, exchanged, joined, key, key_is, geometry, of_both, scan, probe, plan}
use Rattle.table_model.specs.Places.{query_rows}
use Rattle.table_model.specs.Plans.{chosen}
use Rattle.table_model.specs.Truths.{Rows, compared, order_of, field_at}
use Rattle.table_model.specs.Work.{work}
use Rattle.table_model.specs.declared.conditions.Comparison.TheVariants.{NotEqual}
use Rattle.table_model.specs.declared.values.Value.TheVariants as values
use Rattle.table_model.specs.declared.plans.Plan.{Plan}
use Rattle.table_model.proofs.CondFolds.{cond_folds}
use Rattle.table_model.proofs.WorkFacts.{both, work_of_two, analyzed_is}
use Rattle.table_model.proofs.plan_examples.plans_of_pairs.Goals as goal

abbrev pairs : List (Table Geometry)
pairs = point_rows 1 100 ∷ exchanged ∷ []

abbrev crossed : Plan
crossed = plan 30 (scan 1 ∷ probe 0 0 ∷ []) (1 ∷ 0 ∷ [])

-- the key isn't 2, and then the predicate is computed
abbrev number : Rows Geometry → ℕ
number rows = 0 + (if is_true (compared NotEqual (order_of (field_at rows (key 0)) (values.Integer (pos 2)))) then both rows (geometry 0) (geometry 1) else 0)

exchanged_chosen : chosen pairs (joined) ≡ Some crossed
exchanged_chosen = simp cond_folds refl

exchanged_work : work labelled_matrix denoted pairs (joined) crossed ≡ 8
exchanged_work = work_of_two (candidates denoted pairs joined crossed.accesses) (query_rows pairs joined) (key_is NotEqual 0 2) (of_both Intersects) number (λ rows. simp cond_folds refl)

pub returns-clause-exchanged : goal.returns-clause-exchanged
unfolding digits
returns-clause-exchanged c = analyzed_is pairs (joined) crossed 8 _ exchanged_chosen exchanged_work refl

pub returns-clause-cross_join : goal.returns-clause-cross_join
unfolding digits
returns-clause-cross_join c = refl

pub returns-clause-without_analyze : goal.returns-clause-without_analyze
unfolding digits
returns-clause-without_analyze c = simp cond_folds refl
