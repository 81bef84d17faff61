use Rattle.geometry_laws.proofs.PointOrder.{same_reflexive}
use Rattle.geometry_laws.proofs.points.same_is_reflexive.Goals as goal

pub returns : goal.returns
returns c = same_reflexive
