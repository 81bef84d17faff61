use Rattle.std.specs.Prelude.{refl}
use Rattle.table_model.proofs.CondFolds.{cond_folds}
use Rattle.table_model.proofs.place_examples.conditions_that_compute.Goals as goal

pub returns-clause-at_a_point : goal.returns-clause-at_a_point
returns-clause-at_a_point c = simp cond_folds refl

pub returns-clause-at_null : goal.returns-clause-at_null
returns-clause-at_null c = simp cond_folds refl

pub returns-clause-beside_null : goal.returns-clause-beside_null
returns-clause-beside_null c = simp cond_folds refl

pub returns-clause-of_keys : goal.returns-clause-of_keys
returns-clause-of_keys c = simp cond_folds refl
