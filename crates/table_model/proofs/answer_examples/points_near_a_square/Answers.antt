-- What ON and WHERE say of a choice, then the records with the digits of their numbers.
use Rattle.std.specs.Prelude.{refl, pos, Bool, true, ◌&&◌, [], ◌∷◌, codes}
use Rattle.std.specs.Fmt.{digits}
use Rattle.geometry_model.specs.Labels.{labelled_matrix}
use Rattle.geometry_model.specs.declared.relations.Predicate.TheVariants.{Intersects}
use Rattle.table_model.specs.Arguments.{denoted}
use Rattle.table_model.specs.Meanings.{is_true}
use Rattle.table_model.specs.PlanExamples.{big, far_or_near, near, square, key, geometry, listing, definition}
use Rattle.table_model.specs.Places.{Choice, query_rows}
use Rattle.table_model.specs.Truths.{any_of, compared, order_of, field_at, related}
use Rattle.table_model.specs.declared.conditions.Comparison.TheVariants.{Greater}
use Rattle.table_model.specs.declared.conditions.GeometryArgument.TheVariants as arguments
use Rattle.table_model.specs.declared.values.Value.TheVariants as values
use Rattle.table_model.proofs.CondFolds.{cond_folds}
use Rattle.table_model.proofs.WorkFacts.{returned_by}
use Rattle.table_model.proofs.answer_examples.points_near_a_square.Goals as goal

-- the key is above 99, or the point and the square have a point in common
abbrev is_far_or_near : Choice → Bool
is_far_or_near choice =
    is_true (any_of (compared Greater (order_of (field_at (query_rows big far_or_near choice) (key 0)) (values.Integer (pos 99)))
    ∷ related labelled_matrix Intersects (denoted (query_rows big far_or_near choice) (geometry 0)) (denoted (query_rows big far_or_near choice) (arguments.Literal (square 0 0))) ∷ []))
    && true

-- the point and the square have a point in common
abbrev is_near : Choice → Bool
is_near choice = is_true (related labelled_matrix Intersects (denoted (query_rows big near choice) (geometry 0)) (denoted (query_rows big near choice) (arguments.Literal (square 0 0)))) && true

pub returns-clause-near : goal.returns-clause-near
unfolding digits
returns-clause-near c = returned_by (definition (codes "big") ∷ []) big (listing (0 ∷ []) near) is_near _ (λ choice. simp cond_folds refl) refl

pub returns-clause-far_or_near : goal.returns-clause-far_or_near
unfolding digits
returns-clause-far_or_near c = returned_by (definition (codes "big") ∷ []) big (listing (0 ∷ []) far_or_near) is_far_or_near _ (λ choice. simp cond_folds refl) refl
