-- What ON and WHERE say of a choice, then the records with the digits of their numbers.
use Rattle.std.specs.Prelude.{refl, Bool, true, ◌&&◌, [], ◌∷◌, codes}
use Rattle.std.specs.Fmt.{digits}
use Rattle.geometry_model.specs.Geometries.{MultiPoint}
use Rattle.geometry_model.specs.Labels.{labelled_matrix}
use Rattle.geometry_model.specs.declared.relations.Predicate.TheVariants.{Equals}
use Rattle.table_model.specs.Arguments.{denoted}
use Rattle.table_model.specs.Meanings.{is_true}
use Rattle.table_model.specs.PlanExamples.{empties, equal_to_empty, geometry, listing, definition}
use Rattle.table_model.specs.Places.{Choice, query_rows}
use Rattle.table_model.specs.Truths.{related}
use Rattle.table_model.specs.declared.conditions.GeometryArgument.TheVariants as arguments
use Rattle.table_model.proofs.CondFolds.{cond_folds}
use Rattle.table_model.proofs.WorkFacts.{returned_by}
use Rattle.table_model.proofs.answer_examples.equal_empty_geometries.Goals as goal

-- the geometry is equal to the empty one
abbrev is_equal : Choice → Bool
is_equal choice =
    is_true (related labelled_matrix Equals (denoted (query_rows (empties ∷ []) equal_to_empty choice) (geometry 0)) (denoted (query_rows (empties ∷ []) equal_to_empty choice) (arguments.Literal (MultiPoint [])))) && true

pub returns : goal.returns
unfolding digits
returns c = returned_by (definition (codes "e") ∷ []) (empties ∷ []) (listing (0 ∷ []) equal_to_empty) is_equal _ (λ choice. simp cond_folds refl) refl
