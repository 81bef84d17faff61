use Rattle.geometry_laws.proofs.PointOrder.{mediant_between}
use Rattle.geometry_laws.proofs.points.mediant_is_between.Goals as goal

pub returns : goal.returns
returns c = mediant_between
