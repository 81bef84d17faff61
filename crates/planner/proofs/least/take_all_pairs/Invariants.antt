use Rattle.std.proofs.Common.{take}
use Rattle.planner.specs.Nestings.{Takes, all_pairs}
use Rattle.planner.proofs.least.take_all_pairs.Given as goal

abbrev pub invariant-loop-outer : goal.invariant-loop-outer
invariant-loop-outer l = Takes l.rows l.initial.least l.least (all_pairs (take l.outer-index l.outers) l.inners)
