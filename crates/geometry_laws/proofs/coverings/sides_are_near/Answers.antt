use Rattle.geometry_laws.proofs.CoverTheorems.{sides_are_near}
use Rattle.geometry_laws.proofs.coverings.sides_are_near.Goals as goal

pub returns : goal.returns
returns c = sides_are_near
