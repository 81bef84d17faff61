-- The folds over the conditions, at their variants.
use Rattle.std.proofs.Common.{refl}
use Rattle.table_model.proofs.CondFolds.{cond_folds}
use Rattle.table_model.proofs.first_run_examples.meaning_of_the_first_run.Goals as goal

pub returns-clause-first : goal.returns-clause-first
returns-clause-first c = simp cond_folds refl

pub returns-clause-second : goal.returns-clause-second
returns-clause-second c = simp cond_folds refl

pub returns-clause-third : goal.returns-clause-third
returns-clause-third c = simp cond_folds refl
