use Rattle.geometry_laws.proofs.PointOrder.{same_transitive}
use Rattle.geometry_laws.proofs.points.same_is_transitive.Goals as goal

pub returns : goal.returns
returns c = same_transitive
