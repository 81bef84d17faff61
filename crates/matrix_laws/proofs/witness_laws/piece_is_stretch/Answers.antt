use Rattle.matrix_laws.proofs.Showing.{piece_is_stretch}
use Rattle.matrix_laws.proofs.witness_laws.piece_is_stretch.Goals as goal

pub returns : goal.returns
returns _ = piece_is_stretch
