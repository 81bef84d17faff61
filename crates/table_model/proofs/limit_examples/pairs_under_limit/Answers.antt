-- Of each row the plan, then its work, then the text with the digits of its numbers.
use Rattle.std.specs.Prelude.{◌≡◌, refl, ℕ, ◌+◌, pos, Bool, true, ◌&&◌, if◌then◌else◌, List, [], ◌∷◌, codes, Some}
use Rattle.std.specs.Fmt.{digits}
use Rattle.geometry_model.specs.Geometries.{Geometry}
use Rattle.geometry_model.specs.Labels.{labelled_matrix}
use Rattle.geometry_model.specs.declared.relations.Predicate.TheVariants.{Intersects, Touches}
use Rattle.table_model.specs.Arguments.{denoted}
use Rattle.table_model.specs.Candidates.{candidates}
use Rattle.table_model.specs.Meanings.{Table, is_true}
use Rattle.table_model.specs.PlanExamples.{point_rows, squares, exchanged, joined, touching, key, key_is, geometry, of_both, limit_to, listing, definition, scan, probe, plan}
use Rattle.table_model.specs.Places.{Choice, query_rows}
use Rattle.table_model.specs.Plans.{chosen}
use Rattle.table_model.specs.Truths.{Rows, compared, order_of, field_at, related}
use Rattle.table_model.specs.Work.{work, up_to_passing}
use Rattle.table_model.specs.declared.conditions.Comparison.TheVariants.{NotEqual}
use Rattle.table_model.specs.declared.values.Value.TheVariants as values
use Rattle.table_model.specs.declared.plans.Plan.{Plan}
use Rattle.table_model.proofs.CondFolds.{cond_folds}
use Rattle.table_model.proofs.WorkFacts.{both, work_of_one, work_of_two, analyzed_is, work_up_to, returned_by}
use Rattle.table_model.proofs.limit_examples.pairs_under_limit.Goals as goal

abbrev pairs : List (Table Geometry)
pairs = point_rows 1 100 ∷ exchanged ∷ []

abbrev crossed : Plan
crossed = plan 30 (scan 1 ∷ probe 0 0 ∷ []) (1 ∷ 0 ∷ [])

-- the key isn't 2, and then the predicate is computed
abbrev number : Rows Geometry → ℕ
number rows = 0 + (if is_true (compared NotEqual (order_of (field_at rows (key 0)) (values.Integer (pos 2)))) then both rows (geometry 0) (geometry 1) else 0)

text_chosen : chosen pairs (limit_to 1 joined) ≡ Some crossed
text_chosen = simp cond_folds refl

text_work : work labelled_matrix denoted pairs (limit_to 1 joined) crossed ≡ 8
text_work = work_of_two (candidates denoted pairs joined crossed.accesses) (query_rows pairs joined) (key_is NotEqual 0 2) (of_both Intersects) number (λ rows. simp cond_folds refl)

pub returns-clause-text : goal.returns-clause-text
unfolding digits
returns-clause-text c = analyzed_is pairs (limit_to 1 joined) crossed 8 _ text_chosen text_work refl

-- the point and the square have a point in common, and the key isn't 2
abbrev passes : Choice → Bool
passes choice =
    is_true (related labelled_matrix Intersects (denoted (query_rows pairs joined choice) (geometry 0)) (denoted (query_rows pairs joined choice) (geometry 1)))
    && (is_true (compared NotEqual (order_of (field_at (query_rows pairs joined choice) (key 0)) (values.Integer (pos 2)))) && true)

pub returns-clause-records : goal.returns-clause-records
unfolding digits
returns-clause-records c = returned_by (definition (codes "big") ∷ definition (codes "sq") ∷ []) pairs (listing (0 ∷ 1 ∷ []) (limit_to 1 joined)) passes _ (λ choice. simp cond_folds refl) refl

abbrev alone : List (Table Geometry)
alone = squares ∷ []

abbrev scanned : Plan
scanned = plan 6 (scan 0 ∷ scan 1 ∷ []) (0 ∷ [])

touching_chosen : chosen alone (limit_to 1 touching) ≡ Some scanned
touching_chosen = simp cond_folds refl

-- the squares touch
abbrev touch : Choice → Bool
touch choice = is_true (related labelled_matrix Touches (denoted (query_rows alone touching choice) (geometry 0)) (denoted (query_rows alone touching choice) (geometry 1))) && true

touching_work : work labelled_matrix denoted alone (limit_to 1 touching) scanned ≡ 2
touching_work =
    work_up_to alone touching scanned touch 1 2 (λ choice. simp cond_folds refl)
    (work_of_one (up_to_passing touch 1 (candidates denoted alone touching scanned.accesses)) (query_rows alone touching) (of_both Touches) (λ rows. both rows (geometry 0) (geometry 1)) (λ rows. simp cond_folds refl))

pub returns-clause-first_outer : goal.returns-clause-first_outer
unfolding digits
returns-clause-first_outer c = analyzed_is alone (limit_to 1 touching) scanned 2 _ touching_chosen touching_work refl
