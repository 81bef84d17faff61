use Rattle.geometry_laws.proofs.Respect.{at_or_above_respects}
use Rattle.geometry_laws.proofs.points.at_or_above_respects.Goals as goal

pub returns : goal.returns
returns c = at_or_above_respects
