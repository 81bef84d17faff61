use Rattle.matrix_laws.proofs.GapTheorems.{sides_along_own_edge}
use Rattle.matrix_laws.proofs.gap_sides.sides_along_own_edge.Goals as goal

pub returns : goal.returns
returns _ = sides_along_own_edge
