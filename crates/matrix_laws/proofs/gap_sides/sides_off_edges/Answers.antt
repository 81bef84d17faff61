use Rattle.matrix_laws.proofs.GapTheorems.{sides_off_edges}
use Rattle.matrix_laws.proofs.gap_sides.sides_off_edges.Goals as goal

pub returns : goal.returns
returns _ = sides_off_edges
