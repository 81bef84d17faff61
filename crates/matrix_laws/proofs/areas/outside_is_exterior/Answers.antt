use Rattle.matrix_laws.proofs.Outside.{outside_is_exterior}
use Rattle.matrix_laws.proofs.areas.outside_is_exterior.Goals as goal

pub returns : goal.returns
returns c = outside_is_exterior
