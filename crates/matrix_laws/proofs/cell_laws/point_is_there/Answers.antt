use Rattle.matrix_laws.proofs.CellTheorems.{point_is_there}
use Rattle.matrix_laws.proofs.cell_laws.point_is_there.Goals as goal

pub returns : goal.returns
returns _ = point_is_there
