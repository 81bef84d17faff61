use Rattle.geometry_laws.proofs.RingParity.{parity_is_kept}
use Rattle.geometry_laws.proofs.parity.parity_is_kept.Goals as goal

pub returns : goal.returns
returns c = parity_is_kept
