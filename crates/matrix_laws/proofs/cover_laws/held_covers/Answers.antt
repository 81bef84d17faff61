use Rattle.matrix_laws.proofs.CoveringTheorems.{held_covers}
use Rattle.matrix_laws.proofs.cover_laws.held_covers.Goals as goal

pub returns : goal.returns
returns _ = held_covers
