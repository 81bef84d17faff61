use Rattle.geometry_laws.proofs.PieceTheorems.{sides_constant}
use Rattle.geometry_laws.proofs.neighbourhoods.sides_are_constant.Goals as goal

pub returns : goal.returns
returns c = sides_constant
