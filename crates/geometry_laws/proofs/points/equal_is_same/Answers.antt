use Rattle.geometry_laws.proofs.PointOrder.{equal_is_same}
use Rattle.geometry_laws.proofs.points.equal_is_same.Goals as goal

pub returns : goal.returns
returns c = equal_is_same
