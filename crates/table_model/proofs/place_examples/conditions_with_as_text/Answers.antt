use Rattle.std.specs.Prelude.{refl}
use Rattle.table_model.proofs.CondFolds.{cond_folds}
use Rattle.table_model.proofs.place_examples.conditions_with_as_text.Goals as goal

pub returns-clause-left : goal.returns-clause-left
returns-clause-left c = simp cond_folds refl

pub returns-clause-right : goal.returns-clause-right
returns-clause-right c = simp cond_folds refl

pub returns-clause-is_null : goal.returns-clause-is_null
returns-clause-is_null c = simp cond_folds refl

pub returns-clause-other_functions : goal.returns-clause-other_functions
returns-clause-other_functions c = simp cond_folds refl
