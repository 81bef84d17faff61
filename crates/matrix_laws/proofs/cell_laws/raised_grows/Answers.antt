use Rattle.matrix_laws.proofs.CellTheorems.{raised_grows}
use Rattle.matrix_laws.proofs.cell_laws.raised_grows.Goals as goal

pub returns : goal.returns
returns _ = raised_grows
