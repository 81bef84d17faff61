use Rattle.matrix_laws.proofs.CellTheorems.{sides_are_there}
use Rattle.matrix_laws.proofs.cell_laws.sides_are_there.Goals as goal

pub returns : goal.returns
returns _ = sides_are_there
