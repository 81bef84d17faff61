-- A condition without parts folds to its own step.
use Rattle.std.proofs.Common.{refl}
use Rattle.table_model.specs.Texts.{same_name}
use Rattle.table_model.proofs.WrittenFolds.{written_folds}
use Rattle.table_model.proofs.geometry_column_examples.refused_types.Goals as goal

pub returns-clause-comparison : goal.returns-clause-comparison
unfolding same_name
returns-clause-comparison c = simp written_folds refl

pub returns-clause-null_with_geometry : goal.returns-clause-null_with_geometry
unfolding same_name
returns-clause-null_with_geometry c = simp written_folds refl

pub returns-clause-argument : goal.returns-clause-argument
unfolding same_name
returns-clause-argument c = simp written_folds refl

pub returns-clause-call : goal.returns-clause-call
unfolding same_name
returns-clause-call c = simp written_folds refl

pub returns-clause-later_argument : goal.returns-clause-later_argument
unfolding same_name
returns-clause-later_argument c = simp written_folds refl
