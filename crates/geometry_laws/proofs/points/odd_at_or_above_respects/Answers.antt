use Rattle.geometry_laws.proofs.Respect.{odd_at_or_above_respects}
use Rattle.geometry_laws.proofs.points.odd_at_or_above_respects.Goals as goal

pub returns : goal.returns
returns c = odd_at_or_above_respects
