use Rattle.table_laws.proofs.Doubles.{none_is_double as law}
use Rattle.table_laws.proofs.double_keys.none_is_double.Goals as goal

pub returns : goal.returns
returns c = law
