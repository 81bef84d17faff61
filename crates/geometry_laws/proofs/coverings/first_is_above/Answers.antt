use Rattle.geometry_laws.proofs.CoverTheorems.{first_is_above}
use Rattle.geometry_laws.proofs.coverings.first_is_above.Goals as goal

pub returns : goal.returns
returns c = first_is_above
