use Rattle.geometry_laws.proofs.Respect.{compare_respects}
use Rattle.geometry_laws.proofs.points.compare_respects.Goals as goal

pub returns : goal.returns
returns c = compare_respects
