use Rattle.geometry_laws.proofs.Respect.{side_respects}
use Rattle.geometry_laws.proofs.points.side_respects.Goals as goal

pub returns : goal.returns
returns c = side_respects
