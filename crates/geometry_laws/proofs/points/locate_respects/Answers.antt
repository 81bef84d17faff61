use Rattle.geometry_laws.proofs.Respect.{locate_respects}
use Rattle.geometry_laws.proofs.points.locate_respects.Goals as goal

pub returns : goal.returns
returns c = locate_respects
