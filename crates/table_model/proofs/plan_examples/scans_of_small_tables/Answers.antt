-- Texts of EXPLAIN, with the digits of their numbers.
use Rattle.std.specs.Prelude.{refl}
use Rattle.std.specs.Fmt.{digits}
use Rattle.table_model.proofs.CondFolds.{cond_folds}
use Rattle.table_model.proofs.plan_examples.scans_of_small_tables.Goals as goal

pub returns-clause-two_rows : goal.returns-clause-two_rows
unfolding digits
returns-clause-two_rows c = simp cond_folds refl

pub returns-clause-of_four_rows : goal.returns-clause-of_four_rows
unfolding digits
returns-clause-of_four_rows c = simp cond_folds refl
