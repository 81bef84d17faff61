use Rattle.geometry_laws.proofs.OtherPoints.{other_point_is_decided}
use Rattle.geometry_laws.proofs.shared_points.other_point_is_decided.Goals as goal

pub returns : goal.returns
returns c = other_point_is_decided
