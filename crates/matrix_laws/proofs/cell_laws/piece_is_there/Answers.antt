use Rattle.matrix_laws.proofs.CellTheorems.{piece_is_there}
use Rattle.matrix_laws.proofs.cell_laws.piece_is_there.Goals as goal

pub returns : goal.returns
returns _ = piece_is_there
