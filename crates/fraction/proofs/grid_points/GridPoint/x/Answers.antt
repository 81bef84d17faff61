use Rattle.std.proofs.Common.{rules}
use Rattle.fraction.proofs.grid_points.GridPoint.x.Goals as goal

pub returns-clause-value : goal.returns-clause-value
returns-clause-value c = search rules
