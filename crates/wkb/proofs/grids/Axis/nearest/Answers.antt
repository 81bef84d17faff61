use Rattle.std.proofs.Common.{◌≡◌, ap, ap₂, ◌∙◌, ℤ, pos, ◌+ℤ◌, ◌-ℤ◌, ◌*ℤ◌, arith}
use borrow.Author.Differences.{ints}
use Rattle.std.specs.Int.{int_div_euclid}
use Rattle.std.proofs.lemmas.Int.{to_z-of_z}
use mir.Syntax.{w128}
use Rattle.wkb.proofs.grids.Axis.nearest.Goals as goal

-- a difference and a sum in another order
ordered : (a b c : ℤ) → (a -ℤ b) +ℤ c ≡ a +ℤ (c -ℤ b)
ordered a b c = omega (arith, ints)

pub returns : goal.returns
returns c =
    to_z-of_z w128 c.quotient.result (record { sfits = c.quotient.type_inv })
    ∙ (c.quotient.ensures
    ∙ ap₂ int_div_euclid
    (to_z-of_z w128 c.sum.result (record { sfits = c.sum.type_inv })
    ∙ (c.sum.ensures
    ∙ (ap₂ (λ (a b : ℤ). a +ℤ b)
    (to_z-of_z w128 c.past_origin.result (record { sfits = c.past_origin.type_inv })
    ∙ (c.past_origin.ensures.value ∙ ap (λ (z : ℤ). z -ℤ c.args.self.now.origin *ℤ pos 1048576)
    (to_z-of_z w128 c.args.down c.ranges.down)))
    (to_z-of_z w128 c.half_step.result (record { sfits = c.half_step.type_inv }) ∙ c.half_step.ensures.value)
    ∙ ordered c.args.down (c.args.self.now.origin *ℤ pos 1048576) (pos c.args.self.now.step *ℤ pos 524288))))
    (to_z-of_z w128 c.step.result (record { sfits = c.step.type_inv }) ∙ c.step.ensures.value))
