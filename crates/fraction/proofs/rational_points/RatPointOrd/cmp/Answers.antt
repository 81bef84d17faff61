use Rattle.std.proofs.Common.{rules}
use Rattle.fraction.proofs.rational_points.RatPointOrd.cmp.Goals as goal

pub returns-clause-order : goal.returns-clause-order
returns-clause-order c = search rules

pub returns-clause-exact : goal.returns-clause-exact
returns-clause-exact c = search rules
