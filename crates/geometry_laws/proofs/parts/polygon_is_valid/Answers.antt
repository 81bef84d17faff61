use Rattle.geometry_laws.proofs.ValidParts.{polygon_is_valid}
use Rattle.geometry_laws.proofs.parts.polygon_is_valid.Goals as goal

pub returns : goal.returns
returns c = polygon_is_valid
