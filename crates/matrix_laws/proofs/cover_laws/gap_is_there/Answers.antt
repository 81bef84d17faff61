use Rattle.matrix_laws.proofs.CoveringTheorems.{gap_is_there}
use Rattle.matrix_laws.proofs.cover_laws.gap_is_there.Goals as goal

pub returns : goal.returns
returns _ = gap_is_there
