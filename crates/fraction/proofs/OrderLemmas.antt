-- The lawful orders are those of the rationals at the fractions and points of the code.
use Rattle.std.proofs.Common.{◌≡◌, refl, sym, ap, ap₂, ◌∙◌, ◌↔◌, Bool, true, cond, ◌&&◌, IsTrue, ℤ, pos, ◌*ℤ◌, ◌<ℤ◌, arith}
use Rattle.std.proofs.lemmas.Int.{ints}
use Rattle.std.proofs.lemmas.Bool.{and_from}
use Rattle.std.specs.Cmp.{both_ways}
use Rattle.std.specs.declared.cmp.Ordering.{Ordering}
use Rattle.std.specs.declared.cmp.Ordering.TheVariants.{Less, Equal, Greater}
use Rattle.std.specs.Ordering.{int_cmp, int_eq, ordering_then, is_eq, eq_by_cmp}
use Rattle.std.specs.Int.{int_max}
use Rattle.basics.proofs.Signs.{less_no}
use Rattle.basics.proofs.Tests.{equal_yes, cmp_two_scaled}
use Rattle.geometry_model.specs.Points.{Position, Point, IsPoint, point_at, same_point, compare_x, compare_y, compare}
use Rattle.geometry_model.specs.WellKnownText.{same_position}
use Rattle.geometry_model.proofs.LeastFormFacts.{least_is_unique}
use Rattle.fraction.specs.Fractions.{Fraction, IsFraction, x_of, y_of, compare_fractions}
use Rattle.fraction.specs.Ranges.{IsKeptPoint}
use Rattle.fraction.specs.Orders.{position_order, made_fraction, fraction_order, point_order}

made_as_it_is : (f : Fraction) → IsFraction f → made_fraction f ≡ f
made_as_it_is f h = λ i. record { numerator = f.numerator; denominator = at_least_one f.denominator h i }
  where
    at_least_one : (d : ℤ) → pos 0 <ℤ d → int_max (pos 1) d ≡ d
    at_least_one d h = ap (λ (t : Bool). cond t (pos 1) d) (less_no d (pos 1) (omega (arith, ints)))

pub fraction_order_is : (f g : Fraction) → IsFraction f → IsFraction g → fraction_order f g ≡ compare_fractions f g
fraction_order_is f g hf hg = ap₂ compare_fractions (made_as_it_is f hf) (made_as_it_is g hg)

-- fractions with one denominator are ordered as their numerators are
pub one_denominator : (f g : Fraction) → IsFraction f → f.denominator ≡ g.denominator → int_cmp f.numerator g.numerator ≡ compare_fractions f g
one_denominator f g h e = sym (cmp_two_scaled f.denominator f.numerator g.numerator h) ∙ ap₂ int_cmp (turned f.denominator f.numerator ∙ ap (λ z. f.numerator *ℤ z) e) (turned f.denominator g.numerator)
  where
    turned : (y z : ℤ) → y *ℤ z ≡ z *ℤ y
    turned y z = omega (arith, ints)

pub point_order_is : (p q : Point) → IsPoint p → IsPoint q → point_order p q ≡ compare p q
point_order_is p q hp hq = ap₂ ordering_then (fraction_order_is (x_of p) (x_of q) hp hq) (fraction_order_is (y_of p) (y_of q) hp hq)

-- equal in the order: both coordinates are
then_is_both : (x y : Ordering) → is_eq (ordering_then x y) ≡ (is_eq x && is_eq y)
then_is_both Less y = refl
then_is_both Equal y = refl
then_is_both Greater y = refl

pub point_ties_are : (p q : Point) → IsPoint p → IsPoint q → eq_by_cmp point_order p q ≡ same_point p q
point_ties_are p q hp hq = ap is_eq (point_order_is p q hp hq) ∙ then_is_both (compare_x p q) (compare_y p q)

-- of kept points the triples show whether they are one point
pub triples_say : (t : Bool) (p q : Point) → IsKeptPoint p → IsKeptPoint q → IsTrue t ↔ (p ≡ q) → t ≡ same_point p q
triples_say t p q hp hq says = both_ways t (same_point p q) (λ e. itself (says.0 e)) (λ e. says.1 (least_is_unique p q hp.range.positive hq.range.positive hp.least hq.least e))
  where
    itself : p ≡ q → same_point p q ≡ true
    itself e = ap (same_point p) (sym e) ∙ and_from _ _ (equal_yes (p.X *ℤ p.W) (p.X *ℤ p.W) refl) (equal_yes (p.Y *ℤ p.W) (p.Y *ℤ p.W) refl)

-- ---- positions

times_one : (z : ℤ) → z ≡ z *ℤ pos 1
times_one z = omega (arith, ints)

pub position_order_is : (a b : Position) → position_order a b ≡ compare (point_at a) (point_at b)
position_order_is a b = ap₂ ordering_then (ap₂ int_cmp (times_one a.x) (times_one b.x)) (ap₂ int_cmp (times_one a.y) (times_one b.y))

pub same_position_is : (a b : Position) → same_position a b ≡ same_point (point_at a) (point_at b)
same_position_is a b = ap₂ (λ s t. s && t) (ap₂ int_eq (times_one a.x) (times_one b.x)) (ap₂ int_eq (times_one a.y) (times_one b.y))
