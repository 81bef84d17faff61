use Rattle.std.proofs.Common.{rules, ◌≡◌, sym, ap, ap₂, subst, ◌∙◌, to_z}
use Rattle.std.proofs.lemmas.Int.{to_z-of_z}
use mir.Syntax.{w64}
use Rattle.fraction.specs.Fractions.{Fraction, compare_fractions}
use Rattle.fraction.specs.Orders.{fraction_order}
use Rattle.fraction.specs.Ranges.{IsFractionInRange}
use Rattle.fraction.proofs.OrderLemmas.{fraction_order_is, one_denominator}
use Rattle.fraction.proofs.RangeLemmas.{denominator_fits}
use Rattle.fraction.proofs.fractions.FracOrd.cmp.Goals as goal

-- the lawful order at two fractions of the code
order_is : (f g : Fraction) → IsFractionInRange f → IsFractionInRange g → compare_fractions f g ≡ fraction_order f g
order_is f g hf hg = sym (fraction_order_is f g hf.positive hg.positive)

pub returns-then-self-other-clause-exact : goal.returns-then-self-other-clause-exact
returns-then-self-other-clause-exact c =
    let f : Fraction = record { numerator = c.self.inside.numerator; denominator = c.self.inside.denominator } in
    let g : Fraction = record { numerator = c.other.inside.numerator; denominator = c.other.inside.denominator } in
    let same : f.denominator ≡ g.denominator = sym (to_z-of_z w64 f.denominator (denominator_fits f c.self.invariant)) ∙ ap (to_z w64) c.if-self-other.true ∙ to_z-of_z w64 g.denominator (denominator_fits g c.other.invariant) in
    c.cmp.ensures ∙ one_denominator f g c.self.invariant.positive same ∙ ap₂ compare_fractions c.self.view_is c.other.view_is

pub returns-then-self-other-clause-order : goal.returns-then-self-other-clause-order
returns-then-self-other-clause-order c = returns-then-self-other-clause-exact c ∙ order_is c.args.self.now c.args.other.now (subst IsFractionInRange c.self.view_is c.self.invariant) (subst IsFractionInRange c.other.view_is c.other.invariant)

pub returns-else-self-other-clause-order : goal.returns-else-self-other-clause-order
returns-else-self-other-clause-order c =
    let exact : c.cmp-else-self-other.result ≡ compare_fractions c.args.self.now c.args.other.now = search rules in
    exact ∙ order_is c.args.self.now c.args.other.now (subst IsFractionInRange c.self.view_is c.self.invariant) (subst IsFractionInRange c.other.view_is c.other.invariant)
