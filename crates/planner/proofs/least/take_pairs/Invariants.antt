use Rattle.std.proofs.Common.{[], ◌∷◌, map, take}
use Rattle.planner.specs.Nestings.{Takes}
use Rattle.planner.proofs.least.take_pairs.Given as goal

abbrev pub invariant-loop-inner : goal.invariant-loop-inner
invariant-loop-inner l = Takes l.rows l.initial.least l.least (map (λ inner. l.outer ∷ inner ∷ []) (take l.inner-index l.inners))
