use Rattle.geometry_laws.proofs.PointOrder.{compare_reversed}
use Rattle.geometry_laws.proofs.points.compare_is_reversed.Goals as goal

pub returns : goal.returns
returns c = compare_reversed
