use Rattle.geometry_laws.proofs.SharedPoints.{shared_point_is_decided}
use Rattle.geometry_laws.proofs.shared_points.shared_point_is_decided.Goals as goal

pub returns : goal.returns
returns c = shared_point_is_decided
