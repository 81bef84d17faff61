use Rattle.matrix_laws.proofs.GapTheorems.{gap_end_is_alike}
use Rattle.matrix_laws.proofs.gaps.gap_end_is_alike.Goals as goal

pub returns : goal.returns
returns _ = gap_end_is_alike
