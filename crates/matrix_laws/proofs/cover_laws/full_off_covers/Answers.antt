use Rattle.matrix_laws.proofs.CoveringTheorems.{full_off_covers}
use Rattle.matrix_laws.proofs.cover_laws.full_off_covers.Goals as goal

pub returns : goal.returns
returns _ = full_off_covers
