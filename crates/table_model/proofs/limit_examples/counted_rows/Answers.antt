-- Of each row the plan, then its work, then the text with the digits of its numbers.
use Rattle.std.specs.Prelude.{◌≡◌, refl, ℕ, Bool, true, ◌&&◌, [], ◌∷◌, codes, Some}
use Rattle.std.specs.Fmt.{digits}
use Rattle.geometry_model.specs.Geometries.{Geometry}
use Rattle.geometry_model.specs.Labels.{labelled_matrix}
use Rattle.geometry_model.specs.declared.relations.Predicate.TheVariants.{Intersects}
use Rattle.table_model.specs.Arguments.{denoted}
use Rattle.table_model.specs.Candidates.{candidates}
use Rattle.table_model.specs.Meanings.{is_true}
use Rattle.table_model.specs.PlanExamples.{big, near, square, geometry, with_literal, limit_to, counting, definition, probe, plan}
use Rattle.table_model.specs.Places.{Choice, query_rows}
use Rattle.table_model.specs.Plans.{chosen}
use Rattle.table_model.specs.Truths.{Rows, related}
use Rattle.table_model.specs.Work.{work}
use Rattle.table_model.specs.declared.conditions.GeometryArgument.TheVariants as arguments
use Rattle.table_model.specs.declared.plans.Plan.{Plan}
use Rattle.table_model.proofs.CondFolds.{cond_folds}
use Rattle.table_model.proofs.WorkFacts.{both, work_of_one, analyzed_is, returned_by}
use Rattle.table_model.proofs.limit_examples.counted_rows.Goals as goal

-- the point and the square have a point in common
abbrev passes : Choice → Bool
passes choice = is_true (related labelled_matrix Intersects (denoted (query_rows big near choice) (geometry 0)) (denoted (query_rows big near choice) (arguments.Literal (square 0 0)))) && true

abbrev number : Rows Geometry → ℕ
number rows = both rows (geometry 0) (arguments.Literal (square 0 0))

abbrev probed : Plan
probed = plan 14 (probe 0 0 ∷ []) (0 ∷ [])

text_chosen : chosen big (counting near) ≡ Some probed
text_chosen = simp cond_folds refl

text_work : work labelled_matrix denoted big (counting near) probed ≡ 4
text_work = work_of_one (candidates denoted big near probed.accesses) (query_rows big near) (with_literal Intersects (square 0 0)) number (λ rows. simp cond_folds refl)

pub returns-clause-text : goal.returns-clause-text
unfolding digits
returns-clause-text c = analyzed_is big (counting near) probed 4 _ text_chosen text_work refl

limited_text_chosen : chosen big (limit_to 1 (counting near)) ≡ Some probed
limited_text_chosen = simp cond_folds refl

limited_text_work : work labelled_matrix denoted big (limit_to 1 (counting near)) probed ≡ 4
limited_text_work = work_of_one (candidates denoted big near probed.accesses) (query_rows big near) (with_literal Intersects (square 0 0)) number (λ rows. simp cond_folds refl)

pub returns-clause-limited_text : goal.returns-clause-limited_text
unfolding digits
returns-clause-limited_text c = analyzed_is big (limit_to 1 (counting near)) probed 4 _ limited_text_chosen limited_text_work refl

pub returns-clause-records : goal.returns-clause-records
unfolding digits
returns-clause-records c = returned_by (definition (codes "big") ∷ []) big (counting near) passes _ (λ choice. simp cond_folds refl) refl

pub returns-clause-limited_records : goal.returns-clause-limited_records
unfolding digits
returns-clause-limited_records c = returned_by (definition (codes "big") ∷ []) big (limit_to 1 (counting near)) passes _ (λ choice. simp cond_folds refl) refl
