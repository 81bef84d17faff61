-- The fold over the condition, at its variants.
use Rattle.std.proofs.Common.{refl}
use Rattle.table_model.specs.Texts.{same_name}
use Rattle.table_model.proofs.ConjunctFacts.{conjunct_facts}
use Rattle.table_model.proofs.WrittenFolds.{written_folds}
use Rattle.table_model.proofs.first_run_examples.binding_of_the_first_run.Goals as goal

pub returns : goal.returns
unfolding same_name
returns c = simp (written_folds, conjunct_facts) refl
