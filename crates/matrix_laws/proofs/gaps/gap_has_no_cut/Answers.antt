use Rattle.matrix_laws.proofs.GapTheorems.{gap_has_no_cut}
use Rattle.matrix_laws.proofs.gaps.gap_has_no_cut.Goals as goal

pub returns : goal.returns
returns _ = gap_has_no_cut
