use Rattle.std.proofs.Common.{[], ◌∷◌, map, take}
use Rattle.planner.specs.Nestings.{Takes}
use Rattle.planner.proofs.least.take_singles.Given as goal

abbrev pub invariant-loop-access : goal.invariant-loop-access
invariant-loop-access l = Takes l.rows l.initial.least l.least (map (λ a. a ∷ []) (take l.access-index l.accesses))
