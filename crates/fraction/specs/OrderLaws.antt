-- The equality of positions, and the orders of fractions and of points, are lawful.
use Rattle.std.proofs.Common.{◌≡◌, sym, ap, ap₂, ◌∙◌, [], ◌∷◌, ℤ, pos, ◌*ℤ◌, ◌<ℤ◌, arith}
use Rattle.std.proofs.lemmas.Int.{ints}
use Rattle.std.proofs.lemmas.Cmp.{int_cmp_total, on_total, then_total, and_equiv, on_equiv, int_eq_equiv}
use Rattle.std.specs.Cmp.{IsTotalOrder, IsEquivalence}
use Rattle.std.specs.declared.cmp.Ordering.TheVariants.{Less, Equal}
use Rattle.std.specs.Ordering.{int_cmp}
use Rattle.std.specs.Int.{int_max}
use Rattle.basics.proofs.Ring.{solve, var, ◌⊗◌}
use Rattle.basics.proofs.Quotients.{trans_less}
use Rattle.basics.proofs.Tests.{cmp_less, cmp_less_from, cmp_equal_from, cmp_two_scaled}
use Rattle.geometry_model.specs.WellKnownText.{same_position}
use Rattle.fraction.specs.Fractions.{Fraction, IsFraction, x_of, y_of, compare_fractions}
use Rattle.fraction.specs.Orders.{made_fraction, fraction_order, point_order}

-- ---- positions

pub same_position_equiv : IsEquivalence same_position
same_position_equiv = and_equiv (on_equiv (λ a. a.x) int_eq_equiv) (on_equiv (λ a. a.y) int_eq_equiv)

-- ---- over fractions with denominators above 0

compare_trans : (f g h : Fraction) → IsFraction f → IsFraction g → IsFraction h → compare_fractions f g ≡ Less → compare_fractions g h ≡ Less → compare_fractions f h ≡ Less
compare_trans f g h hf hg hh e k = cmp_less (f.numerator *ℤ h.denominator) (h.numerator *ℤ f.denominator)
    (trans_less f.numerator f.denominator g.numerator g.denominator h.numerator h.denominator hf hg hh
    (cmp_less_from (f.numerator *ℤ g.denominator) (g.numerator *ℤ f.denominator) e) (cmp_less_from (g.numerator *ℤ h.denominator) (h.numerator *ℤ g.denominator) k))

-- a/m = b/n, so each compares with c/k as the other does: n (a k) = m (b k) and n (c m) = m (c n)
quotient_congr : (a m b n c k : ℤ) → pos 0 <ℤ m → pos 0 <ℤ n → a *ℤ n ≡ b *ℤ m → int_cmp (a *ℤ k) (c *ℤ m) ≡ int_cmp (b *ℤ k) (c *ℤ n)
quotient_congr a m b n c k hm hn e = sym (cmp_two_scaled n (a *ℤ k) (c *ℤ m) hn) ∙ ap₂ int_cmp first second ∙ cmp_two_scaled m (b *ℤ k) (c *ℤ n) hm
  where
    first : n *ℤ (a *ℤ k) ≡ m *ℤ (b *ℤ k)
    first = solve (a ∷ n ∷ k ∷ []) (var 1 ⊗ (var 0 ⊗ var 2)) (var 0 ⊗ var 1 ⊗ var 2) tt ∙ ap (λ (z : ℤ). z *ℤ k) e ∙ solve (b ∷ m ∷ k ∷ []) (var 0 ⊗ var 1 ⊗ var 2) (var 1 ⊗ (var 0 ⊗ var 2)) tt

    second : n *ℤ (c *ℤ m) ≡ m *ℤ (c *ℤ n)
    second = solve (c ∷ m ∷ n ∷ []) (var 2 ⊗ (var 0 ⊗ var 1)) (var 1 ⊗ (var 0 ⊗ var 2)) tt

compare_congr : (f g h : Fraction) → IsFraction f → IsFraction g → compare_fractions f g ≡ Equal → compare_fractions f h ≡ compare_fractions g h
compare_congr f g h hf hg e = quotient_congr f.numerator f.denominator g.numerator g.denominator h.numerator h.denominator hf hg (cmp_equal_from (f.numerator *ℤ g.denominator) (g.numerator *ℤ f.denominator) e)

-- ---- over all

made_is_fraction : (f : Fraction) → IsFraction (made_fraction f)
made_is_fraction f = positive f.denominator
  where
    positive : (d : ℤ) → pos 0 <ℤ int_max (pos 1) d
    positive d = grind (arith, ints)

pub fraction_order_total : IsTotalOrder fraction_order
fraction_order_total = record {
  antisymm = λ f g. int_cmp_total.antisymm ((made_fraction f).numerator *ℤ (made_fraction g).denominator) ((made_fraction g).numerator *ℤ (made_fraction f).denominator);
  trans = λ f g h e k. compare_trans (made_fraction f) (made_fraction g) (made_fraction h) (made_is_fraction f) (made_is_fraction g) (made_is_fraction h) e k;
  congr = λ f g h e. compare_congr (made_fraction f) (made_fraction g) (made_fraction h) (made_is_fraction f) (made_is_fraction g) e;
}

pub point_order_total : IsTotalOrder point_order
point_order_total = then_total (on_total x_of fraction_order_total) (on_total y_of fraction_order_total)
