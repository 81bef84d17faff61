-- What ON and WHERE say of a choice, then the records with the digits of their numbers.
use Rattle.std.specs.Prelude.{refl, Bool, true, ◌&&◌, [], ◌∷◌, codes}
use Rattle.std.specs.Fmt.{digits}
use Rattle.geometry_model.specs.Labels.{labelled_matrix}
use Rattle.geometry_model.specs.declared.relations.Predicate.TheVariants.{Touches}
use Rattle.table_model.specs.Arguments.{denoted}
use Rattle.table_model.specs.Meanings.{is_true}
use Rattle.table_model.specs.PlanExamples.{squares, touching, geometry, listing, definition}
use Rattle.table_model.specs.Places.{Choice, query_rows}
use Rattle.table_model.specs.Truths.{related}
use Rattle.table_model.proofs.CondFolds.{cond_folds}
use Rattle.table_model.proofs.WorkFacts.{returned_by}
use Rattle.table_model.proofs.answer_examples.touching_squares.Goals as goal

-- the squares touch
abbrev touch : Choice → Bool
touch choice =
    is_true (related labelled_matrix Touches (denoted (query_rows (squares ∷ []) touching choice) (geometry 0)) (denoted (query_rows (squares ∷ []) touching choice) (geometry 1))) && true

pub returns : goal.returns
unfolding digits
returns c = returned_by (definition (codes "sq") ∷ []) (squares ∷ []) (listing (0 ∷ 1 ∷ []) touching) touch _ (λ choice. simp cond_folds refl) refl
