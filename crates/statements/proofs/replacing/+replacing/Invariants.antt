use Rattle.std.proofs.Common.{◌+◌, ◌*◌, sum_by}
use Rattle.statements.proofs.Sizes.{size}
use Rattle.statements.proofs.replacing.+replacing.Given as goal

abbrev pub decreases-condition_with : goal.decreases-condition_with
decreases-condition_with l = 2 * size l.condition

abbrev pub decreases-conditions_with : goal.decreases-conditions_with
decreases-conditions_with l = 2 * sum_by size l.conditions + 1
