use Rattle.geometry_laws.proofs.PointOrder.{same_symmetric}
use Rattle.geometry_laws.proofs.points.same_is_symmetric.Goals as goal

pub returns : goal.returns
returns c = same_symmetric
