use Rattle.std.proofs.Common.{◌≡◌, sym, ap, ap₂, ◌∙◌, subst, ℤ, ◌*ℤ◌, ◌*◌, ◌≤◌, ◌^◌, to_z, of_z, arith}
use borrow.Author.Differences.{ints}
use Rattle.std.specs.Prelude.{unsigned_abs}
use Rattle.std.proofs.lemmas.Int.{to_z-of_z}
use mir.Syntax.{w32, w128}
use mir.Val.{SFits}
use Rattle.basics.proofs.Numbers.{product_within}
use Rattle.wkb.proofs.grids.multiple.Goals as goal

-- the product of what was passed
product : (c : goal.After-from) → to_z w128 (of_z w128 c.from.result) *ℤ to_z w128 (of_z w128 c.args.step)
    ≡ c.args.coordinate *ℤ c.args.step
product c = ap₂ (λ (a b : ℤ). a *ℤ b) (to_z-of_z w128 c.from.result (record { sfits = c.from.type_inv })
    ∙ (c.from.ensures ∙ to_z-of_z w32 c.args.coordinate c.ranges.coordinate)) (to_z-of_z w128 c.args.step c.ranges.step)

size : (c : goal.After-from) → unsigned_abs (c.args.coordinate *ℤ c.args.step) ≤ 10000000 * 2 ^ 70
size c = product_within c.args.coordinate c.args.step 10000000 (2 ^ 70) c.requires.coordinate c.requires.step

fits : (z : ℤ) → unsigned_abs z ≤ 10000000 * 2 ^ 70 → SFits w128 z
fits z h = omega (arith, ints, h)

short : (z : ℤ) → unsigned_abs z ≤ 10000000 * 2 ^ 70 → unsigned_abs z ≤ 2 ^ 96
short z h = omega (arith, h)

as_product : (c : goal.After-from) → to_z w128
    (of_z w128 (to_z w128 (of_z w128 c.from.result) *ℤ to_z w128 (of_z w128 c.args.step))) ≡ c.args.coordinate *ℤ c.args.step
as_product c = ap (λ (z : ℤ). to_z w128 (of_z w128 z)) (product c)
    ∙ to_z-of_z w128 (c.args.coordinate *ℤ c.args.step) (fits (c.args.coordinate *ℤ c.args.step) (size c))

pub overflow_mul-result : goal.overflow_mul-result
overflow_mul-result c = subst (SFits w128) (sym (product c)) (fits (c.args.coordinate *ℤ c.args.step) (size c))

pub returns-clause-value : goal.returns-clause-value
returns-clause-value c = as_product c

pub returns-clause-within : goal.returns-clause-within
returns-clause-within c = subst (λ (z : ℤ). unsigned_abs z ≤ 2 ^ 96) (sym (as_product c))
    (short (c.args.coordinate *ℤ c.args.step) (size c))
