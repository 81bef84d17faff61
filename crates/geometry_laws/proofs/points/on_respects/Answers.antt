use Rattle.geometry_laws.proofs.Respect.{on_respects}
use Rattle.geometry_laws.proofs.points.on_respects.Goals as goal

pub returns : goal.returns
returns c = on_respects
