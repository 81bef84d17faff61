use Rattle.geometry_laws.proofs.Respect.{strictly_above_respects}
use Rattle.geometry_laws.proofs.points.strictly_above_respects.Goals as goal

pub returns : goal.returns
returns c = strictly_above_respects
