use Rattle.matrix_laws.proofs.CoveringTheorems.{gaps_cover}
use Rattle.matrix_laws.proofs.cover_laws.gaps_cover.Goals as goal

pub returns : goal.returns
returns _ = gaps_cover
