use Rattle.table_laws.proofs.Bound.{bound_has_valid}
use Rattle.table_laws.proofs.meaning_laws.bound_has_valid.Goals as goal

pub returns : goal.returns
returns c = bound_has_valid
