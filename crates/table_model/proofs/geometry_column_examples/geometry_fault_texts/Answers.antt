-- The digits of the numbers are computed.
use Rattle.std.proofs.Common.{refl}
use Rattle.std.specs.Fmt.{digits}
use Rattle.table_model.proofs.geometry_column_examples.geometry_fault_texts.Goals as goal

pub returns-clause-text : goal.returns-clause-text
unfolding digits
returns-clause-text c = refl

pub returns-clause-rings : goal.returns-clause-rings
unfolding digits
returns-clause-rings c = refl

pub returns-clause-too_long : goal.returns-clause-too_long
unfolding digits
returns-clause-too_long c = refl

pub returns-clause-wrong_type : goal.returns-clause-wrong_type
unfolding digits
returns-clause-wrong_type c = refl

pub returns-clause-string : goal.returns-clause-string
unfolding digits
returns-clause-string c = refl

pub returns-clause-ring : goal.returns-clause-ring
unfolding digits
returns-clause-ring c = refl

pub returns-clause-pattern : goal.returns-clause-pattern
unfolding digits
returns-clause-pattern c = refl
