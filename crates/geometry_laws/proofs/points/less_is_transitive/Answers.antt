use Rattle.geometry_laws.proofs.PointOrder.{less_transitive}
use Rattle.geometry_laws.proofs.points.less_is_transitive.Goals as goal

pub returns : goal.returns
returns c = less_transitive
