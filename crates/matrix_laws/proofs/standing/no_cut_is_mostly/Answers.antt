use Rattle.matrix_laws.proofs.GapTheorems.{no_cut_is_mostly}
use Rattle.matrix_laws.proofs.standing.no_cut_is_mostly.Goals as goal

pub returns : goal.returns
returns _ = no_cut_is_mostly
