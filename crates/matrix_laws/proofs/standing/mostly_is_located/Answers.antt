use Rattle.matrix_laws.proofs.GapTheorems.{mostly_is_located}
use Rattle.matrix_laws.proofs.standing.mostly_is_located.Goals as goal

pub returns : goal.returns
returns _ = mostly_is_located
