use Rattle.geometry_laws.proofs.PieceTheorems.{labels_constant}
use Rattle.geometry_laws.proofs.neighbourhoods.labels_are_constant.Goals as goal

pub returns : goal.returns
returns c = labels_constant
