use Rattle.std.proofs.Common.{[], ◌∷◌}
use Rattle.basics.proofs.Ring.{solve, var, ◌⊕◌, ◌⊖◌, ◌⊗◌}
use Rattle.basics.proofs.product_of_differences.Goals as goal

pub returns : goal.returns
returns _ a b c d = solve (a ∷ b ∷ c ∷ d ∷ []) ((var 0 ⊖ var 1) ⊗ (var 2 ⊖ var 3)) (var 0 ⊗ var 2 ⊖ var 0 ⊗ var 3 ⊖ var 1 ⊗ var 2 ⊕ var 1 ⊗ var 3) tt
