use Rattle.matrix_laws.proofs.GapTheorems.{shared_point_shares_gap}
use Rattle.matrix_laws.proofs.gaps.shared_point_shares_gap.Goals as goal

pub returns : goal.returns
returns _ = shared_point_shares_gap
