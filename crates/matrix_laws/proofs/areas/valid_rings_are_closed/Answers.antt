use Rattle.matrix_laws.proofs.Closing.{valid_rings_are_closed}
use Rattle.matrix_laws.proofs.areas.valid_rings_are_closed.Goals as goal

pub returns : goal.returns
returns c = valid_rings_are_closed
