use Rattle.std.proofs.Common.{rules}
use Rattle.fraction.proofs.rational_points.RatPoint.y.Goals as goal

pub new-requires : goal.new-requires
new-requires c = search rules

pub returns : goal.returns
returns c = search rules
