use Rattle.std.proofs.Common.{rules}
use Rattle.fraction.proofs.rational_points.RatPoint.numerator_x.Goals as goal

pub returns-clause-value : goal.returns-clause-value
returns-clause-value c = search rules
