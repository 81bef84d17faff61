use Rattle.matrix_laws.proofs.CoveringTheorems.{full_covers}
use Rattle.matrix_laws.proofs.cover_laws.full_covers.Goals as goal

pub returns : goal.returns
returns _ = full_covers
