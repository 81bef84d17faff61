-- The divisor is at most the last number, so it fits.
use Rattle.std.proofs.Common.{◌≡◌, subst, sym, ap, ap₂, ◌∙◌, ℕ, ◌<◌, ◌≤◌, ℤ, pos, ◌<ℤ◌, FitsSigned, arith}
use Rattle.std.specs.Prelude.{unsigned_abs}
use Rattle.std.proofs.lemmas.Int.{to_z-of_z, ints}
use mir.Syntax.{w64, w128}
use mir.Val.{SFits, to_z, of_z}
use Rattle.geometry_model.specs.Points.{gcd}
use Rattle.fraction.proofs.DivisorLemmas.{gcd_at_most, gcd_regrouped}
use Rattle.fraction.proofs.divisors.divisor_of_three.Goals as goal

abbrev three : goal.After-common_divisor-2 → ℕ
three c = gcd (gcd (unsigned_abs c.args.x) (unsigned_abs c.args.y)) (unsigned_abs c.args.w)

divisor_is : (c : goal.After-common_divisor-2) → to_z w128 (of_z w128 c.common_divisor-2.result) ≡ pos (three c)
divisor_is c =
    let first : to_z w128 (of_z w128 c.common_divisor.result) ≡ pos (gcd (unsigned_abs c.args.x) (unsigned_abs c.args.w)) = to_z-of_z w128 _ (record { sfits = c.common_divisor.type_inv }) ∙ c.common_divisor.ensures.exact
    ∙ ap₂ (λ x w. pos (gcd (unsigned_abs x) (unsigned_abs w))) (to_z-of_z w128 c.args.x c.ranges.x) (to_z-of_z w128 _ (record { sfits = c.from.type_inv }) ∙ c.from.ensures ∙ to_z-of_z w64 c.args.w c.ranges.w) in
    to_z-of_z w128 _ (record { sfits = c.common_divisor-2.type_inv }) ∙ c.common_divisor-2.ensures.exact
    ∙ ap₂ (λ y d. pos (gcd (unsigned_abs y) (unsigned_abs d))) (to_z-of_z w128 c.args.y c.ranges.y) first
    ∙ ap pos (gcd_regrouped (unsigned_abs c.args.x) (unsigned_abs c.args.y) (unsigned_abs c.args.w))

positive : (w : ℤ) → pos 0 <ℤ w → 0 < unsigned_abs w
positive w h = omega (arith, ints)

short : (z w : ℤ) (g : ℕ) → z ≡ pos g → g ≤ unsigned_abs w → FitsSigned w64 w → pos 0 <ℤ w → SFits w64 z
short z w g e h f above = omega (arith, ints)

pub overflow_cast-result : goal.overflow_cast-result
overflow_cast-result c = short _ c.args.w (three c) (divisor_is c) (gcd_at_most _ _ (positive c.args.w c.requires)) c.ranges.w c.requires

pub returns : goal.returns
returns c =
    let read = to_z-of_z w64 _ (overflow_cast-result c) in
    record {
      exact = read ∙ divisor_is c;
      positive = subst (λ (z : ℤ). pos 0 <ℤ z) (sym (read ∙ to_z-of_z w128 _ (record { sfits = c.common_divisor-2.type_inv }))) c.common_divisor-2.ensures.positive;
    }
