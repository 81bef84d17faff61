use Rattle.geometry_laws.proofs.ValidParts.{multi_polygon_is_valid}
use Rattle.geometry_laws.proofs.parts.multi_polygon_is_valid.Goals as goal

pub returns : goal.returns
returns c = multi_polygon_is_valid
