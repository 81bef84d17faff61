use Rattle.matrix_laws.proofs.GapTheorems.{gap_is_alike}
use Rattle.matrix_laws.proofs.gaps.gap_is_alike.Goals as goal

pub returns : goal.returns
returns _ = gap_is_alike
