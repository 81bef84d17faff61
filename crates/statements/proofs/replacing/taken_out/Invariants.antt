use Rattle.std.proofs.Common.{◌≡◌, ◌++◌, length, reverse}
use Rattle.statements.proofs.replacing.taken_out.Given as goal

-- what was moved was behind what is left
abbrev pub invariant-loop-last : goal.invariant-loop-last
invariant-loop-last l = l.left ++ reverse l.moved.items ≡ l.fn.conditions

abbrev pub decreases-loop-last : goal.decreases-loop-last
decreases-loop-last l = length l.left
