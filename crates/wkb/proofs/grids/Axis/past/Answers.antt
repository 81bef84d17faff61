use Rattle.std.proofs.Common.{ap, ap₂, ◌∙◌, ℤ, pos, ◌-ℤ◌, ◌*ℤ◌}
use Rattle.std.proofs.lemmas.Int.{to_z-of_z}
use mir.Syntax.{w32, w128}
use Rattle.wkb.proofs.grids.Axis.past.Goals as goal

pub returns : goal.returns
returns c =
    to_z-of_z w128 c.difference.result (record { sfits = c.difference.type_inv })
    ∙ (c.difference.ensures
    ∙ ap₂ (λ (a b : ℤ). a -ℤ b)
    (to_z-of_z w128 c.past_origin.result (record { sfits = c.past_origin.type_inv })
    ∙ (c.past_origin.ensures.value ∙ ap (λ (z : ℤ). z -ℤ c.args.self.now.origin *ℤ pos 1048576)
    (to_z-of_z w128 c.args.down c.ranges.down)))
    (to_z-of_z w128 c.multiple.result (record { sfits = c.multiple.type_inv })
    ∙ (c.multiple.ensures.value ∙ ap₂ (λ (a b : ℤ). a *ℤ b) (to_z-of_z w32 c.args.coordinate c.ranges.coordinate)
    (to_z-of_z w128 c.step.result (record { sfits = c.step.type_inv }) ∙ c.step.ensures.value))))
