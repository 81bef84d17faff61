use Rattle.matrix_laws.proofs.Showing.{stretch_has_segment}
use Rattle.matrix_laws.proofs.witness_laws.stretch_has_segment.Goals as goal

pub returns : goal.returns
returns _ = stretch_has_segment
