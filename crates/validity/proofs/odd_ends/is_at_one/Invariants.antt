use Rattle.std.proofs.Common.{◌-◌}
use Rattle.validity.proofs.OddEndFacts.{IsParted}
use Rattle.validity.proofs.odd_ends.is_at_one.Given as goal

-- those before the one place are less than the point, those from the other on greater
abbrev pub invariant-loop-low : goal.invariant-loop-low
invariant-loop-low l = IsParted l.positions l.p l.low l.high

abbrev pub decreases-loop-low : goal.decreases-loop-low
decreases-loop-low l = l.high - l.low
