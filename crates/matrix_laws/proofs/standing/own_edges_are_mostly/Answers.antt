use Rattle.matrix_laws.proofs.GapTheorems.{own_edges_are_mostly}
use Rattle.matrix_laws.proofs.standing.own_edges_are_mostly.Goals as goal

pub returns : goal.returns
returns _ = own_edges_are_mostly
