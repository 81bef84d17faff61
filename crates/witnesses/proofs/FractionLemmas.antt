-- The least form of a fraction.
use Rattle.std.proofs.Common.{◌≡◌, ℕ, true, sym, ◌∙◌, ap, subst, arith, [], ◌∷◌, ℤ, pos, negsuc, ◌-ℤ◌, ◌*ℤ◌, ◌<ℤ◌}
use Rattle.std.specs.Prelude.{unsigned_abs, int_div}
use Rattle.std.proofs.lemmas.Int.{ints}
use Rattle.std.proofs.lemmas.Bool.{and_from, and_parts}
use Rattle.std.proofs.lemmas.Nat.Gcd.{dvd-zero}
use Rattle.std.proofs.Math.Nat.{zero-div}
use Rattle.std.specs.Cmp.{signed_Decides}
use Rattle.std.specs.Ordering.{int_eq}
use Prim.Native.Nat.{◌∣◌}
use Rattle.basics.proofs.Ring.{solve, var, ◌⊗◌, ◌⊖◌}
use Rattle.basics.proofs.Signs.{cancel_zero}
use Rattle.basics.proofs.Tests.{equal_yes}
use Rattle.basics.proofs.Orders.{no_difference}
use Rattle.geometry_model.specs.Points.{Point, gcd, least_form}
use Rattle.geometry_model.proofs.LeastFormFacts.{least_is_same, least_is_point, least_is_least, least_is_unique}
use Rattle.fraction.specs.Fractions.{Fraction, IsFraction}
use Rattle.witnesses.specs.PointTexts.{quotient_text}
use Rattle.witnesses.specs.FractionLaws.{IsLeastForm, WritesLeastForm}

-- a fraction as the first coordinate of a point on the axis
abbrev on_axis : ℤ → ℤ → Point
on_axis n d = record { X = n; Y = pos 0; W = d }

abbrev point_of : Fraction → Point
point_of f = on_axis f.numerator f.denominator

-- two quotients that are equal to a third are equal
same_quotient : (a w n d m k : ℤ) → pos 0 <ℤ k → a *ℤ k ≡ m *ℤ w → n *ℤ k ≡ m *ℤ d → a *ℤ d ≡ n *ℤ w
same_quotient a w n d m k above e f = no_difference (a *ℤ d) (n *ℤ w) (cancel_zero k (a *ℤ d -ℤ n *ℤ w) above
    (solve (a ∷ w ∷ n ∷ d ∷ k ∷ []) (var 4 ⊗ (var 0 ⊗ var 3 ⊖ var 2 ⊗ var 1)) (var 0 ⊗ var 4 ⊗ var 3 ⊖ var 2 ⊗ var 4 ⊗ var 1) tt
    ∙ ap (λ (z : ℤ). z *ℤ d -ℤ n *ℤ k *ℤ w) e ∙ ap (λ (z : ℤ). m *ℤ w *ℤ d -ℤ z *ℤ w) f
    ∙ solve (m ∷ w ∷ d ∷ []) (var 0 ⊗ var 1 ⊗ var 2 ⊖ var 0 ⊗ var 2 ⊗ var 1) (var 0 ⊖ var 0) tt ∙ none m))
  where
    none : (x : ℤ) → x -ℤ x ≡ pos 0
    none x = omega (arith, ints)

-- 0 divided by a number is 0
zero_quotient : (g : ℕ) → int_div (pos 0) (pos g) ≡ pos 0
zero_quotient g = ap pos (zero-div g)

-- the least form of the point on the axis is that of the fraction
least_of : (f : Fraction) → IsFraction f → IsLeastForm f (least_form (point_of f)).X (least_form (point_of f)).W
least_of f h =
    let p = point_of f in
    let q = least_form p in
    let tests : (int_eq (q.X *ℤ p.W) (p.X *ℤ q.W) ≡ true) × (int_eq (q.Y *ℤ p.W) (p.Y *ℤ q.W) ≡ true) = and_parts _ _ (least_is_same p) in
    record {
      positive = least_is_point p h;
      same = (signed_Decides (q.X *ℤ p.W) (p.X *ℤ q.W)).0 tests.0;
      least = λ k n d. least_is_least p h k n (subst (λ (z : ℤ). k ∣ unsigned_abs z) (sym (zero_quotient (gcd (gcd (unsigned_abs p.X) (unsigned_abs p.Y)) (unsigned_abs p.W)))) (dvd-zero k)) d;
    }

-- two least forms of a fraction are one
least_is_one : (f : Fraction) (a w n d : ℤ) → IsFraction f → IsLeastForm f a w → IsLeastForm f n d → on_axis a w ≡ on_axis n d
least_is_one f a w n d h first second =
    least_is_unique (on_axis a w) (on_axis n d) first.positive second.positive (λ k x y z. first.least k x z) (λ k x y z. second.least k x z)
    (and_from _ _ (equal_yes _ _ (same_quotient a w n d f.numerator f.denominator h first.same second.same)) (equal_yes _ _ (none d w)))
  where
    zero_times : (z : ℤ) → pos 0 *ℤ z ≡ pos 0
    zero_times (pos m) = omega (arith, ints)
    zero_times (negsuc m) = omega (arith, ints)

    none : (x y : ℤ) → pos 0 *ℤ x ≡ pos 0 *ℤ y
    none x y = zero_times x ∙ sym (zero_times y)

pub writes_least : WritesLeastForm
writes_least f h = (
  ((least_form (point_of f)).X, (least_form (point_of f)).W, least_of f h),
  λ n d least. ap (λ p. quotient_text p.X p.W) (least_is_one f _ _ n d h (least_of f h) least),
)
