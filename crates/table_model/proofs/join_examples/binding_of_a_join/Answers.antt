-- The fold over the conditions, at their variants.
use Rattle.std.proofs.Common.{refl}
use Rattle.table_model.specs.Texts.{same_name}
use Rattle.table_model.proofs.WrittenFolds.{written_folds}
use Rattle.table_model.proofs.join_examples.binding_of_a_join.Goals as goal

pub returns-clause-whole : goal.returns-clause-whole
unfolding same_name
returns-clause-whole c = simp written_folds refl

pub returns-clause-conjuncts : goal.returns-clause-conjuncts
unfolding same_name
returns-clause-conjuncts c = simp written_folds refl
