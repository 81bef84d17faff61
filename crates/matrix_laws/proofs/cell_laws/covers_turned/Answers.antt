use Rattle.matrix_laws.proofs.CellTheorems.{covers_turned}
use Rattle.matrix_laws.proofs.cell_laws.covers_turned.Goals as goal

pub returns : goal.returns
returns _ = covers_turned
