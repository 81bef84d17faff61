use Rattle.matrix_laws.proofs.GapTheorems.{shared_gap_holds_ends}
use Rattle.matrix_laws.proofs.gaps.shared_gap_holds_ends.Goals as goal

pub returns : goal.returns
returns _ = shared_gap_holds_ends
