use Rattle.std.proofs.Common.{rules}
use Rattle.fraction.proofs.rational_points.RatPoint.cmp_y.Goals as goal

pub returns : goal.returns
returns c = search rules
