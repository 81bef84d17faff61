use Rattle.matrix_laws.proofs.GapTheorems.{sides_of_own_edge}
use Rattle.matrix_laws.proofs.gap_sides.sides_of_own_edge.Goals as goal

pub returns : goal.returns
returns _ = sides_of_own_edge
