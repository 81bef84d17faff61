-- Of each row the plan, then its work, then the text with the digits of its numbers.
use Rattle.std.specs.Prelude.{◌≡◌, refl, ℕ, List, [], ◌∷◌, Some}
use Rattle.std.specs.Fmt.{digits}
use Rattle.geometry_model.specs.Geometries.{Geometry}
use Rattle.geometry_model.specs.Labels.{labelled_matrix}
use Rattle.geometry_model.specs.declared.relations.Predicate.TheVariants.{Intersects}
use Rattle.table_model.specs.Arguments.{denoted}
use Rattle.table_model.specs.Candidates.{candidates}
use Rattle.table_model.specs.Meanings.{Table}
use Rattle.table_model.specs.PlanExamples.{point_rows, exchanged, big, near, joined, square, geometry, with_literal, limit_to, counting, scan, probe, plan}
use Rattle.table_model.specs.Places.{query_rows}
use Rattle.table_model.specs.Plans.{chosen}
use Rattle.table_model.specs.Truths.{Rows}
use Rattle.table_model.specs.Work.{work}
use Rattle.table_model.specs.declared.conditions.GeometryArgument.TheVariants as arguments
use Rattle.table_model.specs.declared.plans.Plan.{Plan}
use Rattle.table_model.proofs.CondFolds.{cond_folds}
use Rattle.table_model.proofs.WorkFacts.{both, work_of_one, analyzed_is}
use Rattle.table_model.proofs.limit_examples.no_rows.Goals as goal

abbrev number : Rows Geometry → ℕ
number rows = both rows (geometry 0) (arguments.Literal (square 0 0))

abbrev probed : Plan
probed = plan 14 (probe 0 0 ∷ []) (0 ∷ [])

text_chosen : chosen big (limit_to 0 near) ≡ Some probed
text_chosen = simp cond_folds refl

pub returns-clause-text : goal.returns-clause-text
unfolding digits
returns-clause-text c = analyzed_is big (limit_to 0 near) probed 0 _ text_chosen refl refl

counted_text_chosen : chosen big (limit_to 0 (counting near)) ≡ Some probed
counted_text_chosen = simp cond_folds refl

counted_text_work : work labelled_matrix denoted big (limit_to 0 (counting near)) probed ≡ 4
counted_text_work = work_of_one (candidates denoted big near probed.accesses) (query_rows big near) (with_literal Intersects (square 0 0)) number (λ rows. simp cond_folds refl)

pub returns-clause-counted_text : goal.returns-clause-counted_text
unfolding digits
returns-clause-counted_text c = analyzed_is big (limit_to 0 (counting near)) probed 4 _ counted_text_chosen counted_text_work refl

pub returns-clause-records : goal.returns-clause-records
unfolding digits
returns-clause-records c = refl

pub returns-clause-counted : goal.returns-clause-counted
unfolding digits
returns-clause-counted c = refl

pub returns-clause-all_counted : goal.returns-clause-all_counted
unfolding digits
returns-clause-all_counted c = refl

pub returns-clause-without_analyze : goal.returns-clause-without_analyze
unfolding digits
returns-clause-without_analyze c = simp cond_folds refl

abbrev pairs : List (Table Geometry)
pairs = point_rows 1 100 ∷ exchanged ∷ []

abbrev crossed : Plan
crossed = plan 30 (scan 1 ∷ probe 0 0 ∷ []) (1 ∷ 0 ∷ [])

pairs_chosen : chosen pairs (limit_to 0 joined) ≡ Some crossed
pairs_chosen = simp cond_folds refl

pub returns-clause-of_pairs : goal.returns-clause-of_pairs
unfolding digits
returns-clause-of_pairs c = analyzed_is pairs (limit_to 0 joined) crossed 0 _ pairs_chosen refl refl
