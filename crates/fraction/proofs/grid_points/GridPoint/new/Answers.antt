use Rattle.std.proofs.Common.{rules}
use Rattle.fraction.proofs.grid_points.GridPoint.new.Goals as goal

pub invariant_of-result : goal.invariant_of-result
invariant_of-result c = search rules

pub returns-then-contains-2-clause-taken : goal.returns-then-contains-2-clause-taken
returns-then-contains-2-clause-taken c = search rules
