use Rattle.matrix_laws.proofs.CellTheorems.{growing_keeps}
use Rattle.matrix_laws.proofs.cell_laws.growing_keeps.Goals as goal

pub returns : goal.returns
returns _ = growing_keeps
