use Rattle.matrix_laws.proofs.Empty.{nothing_common}
use Rattle.matrix_laws.proofs.areas.nothing_common.Goals as goal

pub returns : goal.returns
returns c = nothing_common
