use Rattle.table_laws.proofs.Doubles.{double_is_first as law}
use Rattle.table_laws.proofs.double_keys.double_is_first.Goals as goal

pub returns : goal.returns
returns c = law
