use Rattle.std.proofs.Common.{◌≡◌, ap, ap₂, ◌∙◌, ◌*ℤ◌, to_z, of_z}
use Rattle.std.proofs.lemmas.Int.{to_z-of_z}
use mir.Syntax.{w64, w128}
use mir.Val.{SFits}
use Rattle.fraction.specs.Fractions.{Fraction}
use Rattle.fraction.proofs.RangeLemmas.{FactorsFit, factors_fit}
use Rattle.fraction.proofs.fractions.product.Goals as goal

factors : (c : goal.After-from) → FactorsFit c.f.inside.numerator c.g.inside.denominator
factors c = factors_fit (record { numerator = c.f.inside.numerator; denominator = c.f.inside.denominator }) (record { numerator = c.g.inside.numerator; denominator = c.g.inside.denominator }) c.f.invariant c.g.invariant

widened : (c : goal.After-from) → to_z w128 (of_z w128 c.from.result) ≡ c.g.inside.denominator
widened c =
    let fits : SFits w128 c.from.result = record { sfits = c.from.type_inv } in
    to_z-of_z w128 c.from.result fits ∙ c.from.ensures ∙ to_z-of_z w64 c.g.inside.denominator (factors c).denominator

pub overflow_mul-result : goal.overflow_mul-result
overflow_mul-result c = rw (to_z-of_z w128 c.f.inside.numerator (factors c).numerator, widened c) (factors c).product

pub returns : goal.returns
returns c =
    ap (λ z. to_z w128 (of_z w128 z)) (ap₂ (λ y z. y *ℤ z) (to_z-of_z w128 c.f.inside.numerator (factors c).numerator) (widened c))
    ∙ to_z-of_z w128 (c.f.inside.numerator *ℤ c.g.inside.denominator) (factors c).product
    ∙ ap₂ (λ (f g : Fraction). f.numerator *ℤ g.denominator) c.f.view_is c.g.view_is
