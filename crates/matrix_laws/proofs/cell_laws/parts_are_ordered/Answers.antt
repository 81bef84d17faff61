use Rattle.matrix_laws.proofs.CellTheorems.{parts_are_ordered}
use Rattle.matrix_laws.proofs.cell_laws.parts_are_ordered.Goals as goal

pub returns : goal.returns
returns _ = parts_are_ordered
