use Rattle.geometry_laws.proofs.Respect.{spans_respects}
use Rattle.geometry_laws.proofs.points.spans_respects.Goals as goal

pub returns : goal.returns
returns c = spans_respects
