use Rattle.matrix_laws.proofs.GapTheorems.{off_edges_is_no_boundary}
use Rattle.matrix_laws.proofs.standing.off_edges_is_no_boundary.Goals as goal

pub returns : goal.returns
returns _ = off_edges_is_no_boundary
