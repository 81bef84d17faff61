-- The divisor is at most the second number, so it fits.
use Rattle.std.proofs.Common.{◌≡◌, ap, ap₂, subst, sym, ◌∙◌, ◌^◌, ℕ, ℤ, ◌<◌, pos, ◌<ℤ◌, arith}
use Rattle.std.specs.Prelude.{unsigned_abs}
use Rattle.std.proofs.lemmas.Int.{to_z-of_z, to_z_pos, ints}
use mir.Syntax.{w128}
use Rattle.geometry_model.specs.Points.{gcd}
use Rattle.fraction.proofs.DivisorLemmas.{divisor_fits}
use Rattle.fraction.proofs.divisors.common_divisor.Goals as goal

divisor_is : (c : goal.After-greatest_common_divisor) → c.greatest_common_divisor.result ≡ gcd (unsigned_abs c.args.number) (unsigned_abs c.args.other)
divisor_is c =
    c.greatest_common_divisor.ensures
    ∙ ap₂ gcd (c.unsigned_abs.ensures.value ∙ ap unsigned_abs (to_z-of_z w128 c.args.number c.ranges.number)) (c.unsigned_abs-2.ensures.value ∙ ap unsigned_abs (to_z-of_z w128 c.args.other c.ranges.other))

fits : (c : goal.After-greatest_common_divisor) → (0 < c.greatest_common_divisor.result) × (c.greatest_common_divisor.result < 2 ^ 127)
fits c = subst (λ (n : ℕ). (0 < n) × (n < 2 ^ 127)) (sym (divisor_is c)) (divisor_fits (unsigned_abs c.args.number) c.args.other c.requires c.ranges.other)

pub overflow_cast-result : goal.overflow_cast-result
overflow_cast-result c = record { sfits = (fits c).1 }

pub returns-clause-exact : goal.returns-clause-exact
returns-clause-exact c = to_z_pos w128 c.greatest_common_divisor.result (fits c).1 ∙ ap pos (divisor_is c)

pub returns-clause-positive : goal.returns-clause-positive
returns-clause-positive c = above (to_z_pos w128 c.greatest_common_divisor.result (fits c).1) (fits c).0
  where
    above : {z : ℤ} {n : ℕ} → z ≡ pos n → 0 < n → pos 0 <ℤ z
    above e h = omega (arith, ints)
