use Rattle.matrix_laws.proofs.CoveringTheorems.{held_by_covered}
use Rattle.matrix_laws.proofs.cover_laws.held_by_covered.Goals as goal

pub returns : goal.returns
returns _ = held_by_covered
