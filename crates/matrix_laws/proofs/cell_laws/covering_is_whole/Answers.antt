use Rattle.matrix_laws.proofs.CellTheorems.{covering_is_whole}
use Rattle.matrix_laws.proofs.cell_laws.covering_is_whole.Goals as goal

pub returns : goal.returns
returns _ = covering_is_whole
