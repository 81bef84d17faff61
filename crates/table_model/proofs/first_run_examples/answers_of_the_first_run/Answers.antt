-- The folds over the conditions, at their variants, and the digits of the numbers.
use Rattle.std.proofs.Common.{refl}
use Rattle.std.specs.Fmt.{digits}
use Rattle.table_model.proofs.CondFolds.{cond_folds}
use Rattle.table_model.proofs.first_run_examples.answers_of_the_first_run.Goals as goal

pub returns-clause-first : goal.returns-clause-first
unfolding digits
returns-clause-first c = simp cond_folds refl

pub returns-clause-third : goal.returns-clause-third
unfolding digits
returns-clause-third c = simp cond_folds refl
