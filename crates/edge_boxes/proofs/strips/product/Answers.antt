use Rattle.std.specs.Prelude.{◌≡◌, ◌≤◌, ◌*◌, ◌^◌, ℤ, ◌*ℤ◌, unsigned_abs}
use Rattle.std.proofs.Common.{sym, ap, ap₂, ◌∙◌, subst, arith, to_z, of_z}
use Rattle.std.proofs.lemmas.Int.{ints, to_z-of_z}
use Rattle.basics.proofs.Numbers.{product_within}
use mir.Syntax.{w32, w64}
use mir.Val.{SFits}
use Rattle.edge_boxes.proofs.strips.product.Goals as goal

long : (z : ℤ) → SFits w32 z → SFits w64 z
long z f = omega (arith, ints)

product_fits : (a b : ℤ) → SFits w32 a → SFits w32 b → SFits w64 (a *ℤ b)
product_fits a b f g = fits (a *ℤ b) (product_within a b (2 ^ 31) (2 ^ 31) (short a f) (short b g))
  where
    short : (z : ℤ) → SFits w32 z → unsigned_abs z ≤ 2 ^ 31
    short z f = omega (arith, ints)

    fits : (z : ℤ) → unsigned_abs z ≤ 2 ^ 31 * 2 ^ 31 → SFits w64 z
    fits z h = omega (arith, ints)

-- the product of the two numbers, both widened
widened_product : (a b : ℤ) → SFits w32 a → SFits w32 b → to_z w64 (of_z w64 (to_z w32 (of_z w32 a))) *ℤ to_z w64 (of_z w64 (to_z w32 (of_z w32 b))) ≡ a *ℤ b
widened_product a b f g = ap₂ (λ (x y : ℤ). x *ℤ y) (widened a f) (widened b g)
  where
    widened : (z : ℤ) → SFits w32 z → to_z w64 (of_z w64 (to_z w32 (of_z w32 z))) ≡ z
    widened z f = ap (λ (x : ℤ). to_z w64 (of_z w64 x)) (to_z-of_z w32 z f) ∙ to_z-of_z w64 z (long z f)

pub overflow_cast-result : goal.overflow_cast-result
overflow_cast-result c = subst (SFits w64) (sym (to_z-of_z w32 c.args.a c.ranges.a)) (long c.args.a c.ranges.a)

pub overflow_cast-result-2 : goal.overflow_cast-result-2
overflow_cast-result-2 c = subst (SFits w64) (sym (to_z-of_z w32 c.args.b c.ranges.b)) (long c.args.b c.ranges.b)

pub overflow_mul-result : goal.overflow_mul-result
overflow_mul-result c = subst (SFits w64) (sym (widened_product c.args.a c.args.b c.ranges.a c.ranges.b)) (product_fits c.args.a c.args.b c.ranges.a c.ranges.b)

pub returns : goal.returns
returns c = ap (λ (z : ℤ). to_z w64 (of_z w64 z)) (widened_product c.args.a c.args.b c.ranges.a c.ranges.b) ∙ to_z-of_z w64 _ (product_fits c.args.a c.args.b c.ranges.a c.ranges.b)
