-- The folds over the conditions, at their variants, the digits of the numbers, and the text of the records.
use Rattle.std.proofs.Common.{refl}
use Rattle.std.specs.Fmt.{digits}
use Rattle.csv.specs.Writing.{escaped, fields_text, is_blank}
use Rattle.table_model.proofs.CondFolds.{cond_folds}
use Rattle.engine.proofs.first_run.answer_of_the_first_run.Goals as goal

pub returns-clause-first : goal.returns-clause-first
unfolding digits escaped fields_text is_blank
returns-clause-first c = simp cond_folds refl

pub returns-clause-third : goal.returns-clause-third
unfolding digits escaped fields_text is_blank
returns-clause-third c = simp cond_folds refl
