use Rattle.geometry_laws.proofs.Respect.{odd_above_respects}
use Rattle.geometry_laws.proofs.points.odd_above_respects.Goals as goal

pub returns : goal.returns
returns c = odd_above_respects
