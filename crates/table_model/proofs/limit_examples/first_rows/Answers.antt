-- Of each row the plan, then its work, then the text with the digits of its numbers.
use Rattle.std.specs.Prelude.{◌≡◌, refl, ℕ, pos, Bool, true, ◌&&◌, [], ◌∷◌, sum, sum_by, codes, Some, option_map}
use Rattle.std.specs.Fmt.{digits}
use Rattle.std.proofs.Common.{ap, ◌∙◌}
use Rattle.geometry_model.specs.Geometries.{Geometry}
use Rattle.geometry_model.specs.Labels.{labelled_matrix}
use Rattle.geometry_model.specs.declared.relations.Predicate.TheVariants.{Intersects}
use Rattle.table_model.specs.Arguments.{denoted}
use Rattle.table_model.specs.Candidates.{candidates}
use Rattle.table_model.specs.Meanings.{is_true}
use Rattle.table_model.specs.PlanExamples.{big, far_or_near, square, key, key_is, geometry, with_literal, limit_to, listing, definition, scan, plan}
use Rattle.table_model.specs.Places.{Choice, query_rows}
use Rattle.table_model.specs.Plans.{chosen}
use Rattle.table_model.specs.Truths.{Rows, any_of, compared, order_of, field_at, related}
use Rattle.table_model.specs.Work.{work_to_row, up_to_passing}
use Rattle.table_model.specs.declared.conditions.Comparison.TheVariants.{Greater}
use Rattle.table_model.specs.declared.conditions.Cond.TheVariants.{Or}
use Rattle.table_model.specs.declared.conditions.GeometryArgument.TheVariants as arguments
use Rattle.table_model.specs.declared.values.Value.TheVariants as values
use Rattle.table_model.specs.declared.plans.Plan.{Plan}
use Rattle.table_model.proofs.CondFolds.{cond_folds}
use Rattle.table_model.proofs.WorkFacts.{both, work_of_one, analyzed_is, work_up_to, returned_by}
use Rattle.table_model.proofs.limit_examples.first_rows.Goals as goal

-- the key is above 99, or the point and the square have a point in common
abbrev passes : Choice → Bool
passes choice =
    is_true (any_of (compared Greater (order_of (field_at (query_rows big far_or_near choice) (key 0)) (values.Integer (pos 99)))
    ∷ related labelled_matrix Intersects (denoted (query_rows big far_or_near choice) (geometry 0)) (denoted (query_rows big far_or_near choice) (arguments.Literal (square 0 0))) ∷ []))
    && true

abbrev number : Rows Geometry → ℕ
number rows = sum (0 ∷ both rows (geometry 0) (arguments.Literal (square 0 0)) ∷ [])

abbrev scanned : Plan
scanned = plan 100 (scan 0 ∷ []) (0 ∷ [])

is_scanned : (n : ℕ) → chosen big (limit_to n far_or_near) ≡ Some scanned
is_scanned n = simp cond_folds refl

plain_scanned : chosen big far_or_near ≡ Some scanned
plain_scanned = simp cond_folds refl

-- the numbers of those candidates
abbrev sum_of : ℕ → ℕ
sum_of n = sum_by (λ choice. number (query_rows big far_or_near choice)) (up_to_passing passes n (candidates denoted big far_or_near scanned.accesses))

work_of_first : (n : ℕ) → work_to_row labelled_matrix denoted big far_or_near scanned n ≡ sum_of n
work_of_first n =
    work_up_to big far_or_near scanned passes n (sum_of n) (λ choice. simp cond_folds refl)
    (work_of_one (up_to_passing passes n (candidates denoted big far_or_near scanned.accesses)) (query_rows big far_or_near)
    (Or (key_is Greater 0 99 ∷ with_literal Intersects (square 0 0) ∷ [])) number (λ rows. simp cond_folds refl))

pub returns-clause-text : goal.returns-clause-text
unfolding digits
returns-clause-text c = analyzed_is big (limit_to 2 far_or_near) scanned 2 _ (is_scanned 2) (work_of_first 2) refl

pub returns-clause-fourth : goal.returns-clause-fourth
unfolding digits
returns-clause-fourth c = analyzed_is big (limit_to 4 far_or_near) scanned 4 _ (is_scanned 4) (work_of_first 4) refl

pub returns-clause-fifth_is_last : goal.returns-clause-fifth_is_last
unfolding digits
returns-clause-fifth_is_last c = analyzed_is big (limit_to 5 far_or_near) scanned 100 _ (is_scanned 5) (work_of_first 5) refl

pub returns-clause-after_one : goal.returns-clause-after_one
unfolding digits
returns-clause-after_one c = ap (option_map (λ plan. work_to_row labelled_matrix denoted big far_or_near plan 1)) plain_scanned ∙ ap Some (work_of_first 1)

pub returns-clause-records : goal.returns-clause-records
unfolding digits
returns-clause-records c = returned_by (definition (codes "big") ∷ []) big (listing (0 ∷ []) (limit_to 2 far_or_near)) passes _ (λ choice. simp cond_folds refl) refl
