-- The mediant lies between, also in least form.
use Rattle.std.proofs.Common.{◌≡◌, sym, ap₂, ◌∙◌, [], ◌∷◌, ℤ, ◌+ℤ◌, ◌-ℤ◌, ◌*ℤ◌, true, arith}
use Rattle.std.proofs.lemmas.Int.{ints}
use Rattle.std.proofs.lemmas.Cmp.{alike_right}
use Rattle.std.specs.Cmp.{Equal-is}
use Rattle.std.specs.declared.cmp.Ordering.TheVariants.{Equal}
use Rattle.std.specs.Ordering.{int_cmp, ordering_then}
use Rattle.basics.proofs.Ring.{solve, var, ◌⊕◌, ◌⊖◌, ◌⊗◌}
use Rattle.basics.proofs.Tests.{same_cmp}
use Rattle.geometry_model.specs.Points.{Point, IsPoint, same_point, compare, mediant, least_form}
use Rattle.geometry_model.proofs.LeastFormFacts.{least_is_same, least_is_point}
use Rattle.fraction.specs.Between.{IsBetween}
use Rattle.fraction.specs.Orders.{point_order}
use Rattle.fraction.specs.OrderLaws.{point_order_total}
use Rattle.fraction.proofs.OrderLemmas.{point_order_is, point_ties_are}

-- equal differences compare alike
by_difference : (x y z t : ℤ) → t -ℤ z ≡ y -ℤ x → int_cmp z t ≡ int_cmp x y
by_difference x y z t e = same_cmp z t x y (λ h. omega (arith, ints)) (λ h. omega (arith, ints)) (λ h. omega (arith, ints))

-- (a + b)/(m + n) lies past a/m as b/n does
past_first : (a m b n : ℤ) → int_cmp (a *ℤ (m +ℤ n)) ((a +ℤ b) *ℤ m) ≡ int_cmp (a *ℤ n) (b *ℤ m)
past_first a m b n = by_difference (a *ℤ n) (b *ℤ m) (a *ℤ (m +ℤ n)) ((a +ℤ b) *ℤ m)
    (solve (a ∷ m ∷ b ∷ n ∷ []) ((var 0 ⊕ var 2) ⊗ var 1 ⊖ var 0 ⊗ (var 1 ⊕ var 3)) (var 2 ⊗ var 1 ⊖ var 0 ⊗ var 3) tt)

-- b/n lies past (a + b)/(m + n) as it does past a/m
past_sum : (a m b n : ℤ) → int_cmp ((a +ℤ b) *ℤ n) (b *ℤ (m +ℤ n)) ≡ int_cmp (a *ℤ n) (b *ℤ m)
past_sum a m b n = by_difference (a *ℤ n) (b *ℤ m) ((a +ℤ b) *ℤ n) (b *ℤ (m +ℤ n))
    (solve (a ∷ m ∷ b ∷ n ∷ []) (var 2 ⊗ (var 1 ⊕ var 3) ⊖ (var 0 ⊕ var 2) ⊗ var 3) (var 2 ⊗ var 1 ⊖ var 0 ⊗ var 3) tt)

mediant_is_between : (p q : Point) → IsBetween p (mediant p q) q
mediant_is_between p q = record {
  from_first = ap₂ ordering_then (past_first p.X p.W q.X q.W) (past_first p.Y p.W q.Y q.W);
  to_second = ap₂ ordering_then (past_sum p.X p.W q.X q.W) (past_sum p.Y p.W q.Y q.W);
}

-- two triples of one point compare alike
same_compares : (p q r : Point) → IsPoint p → IsPoint q → IsPoint r → same_point p q ≡ true → (compare p r ≡ compare q r) × (compare r p ≡ compare r q)
same_compares p q r hp hq hr e =
    let tie : point_order p q ≡ Equal = (Equal-is (point_order p q)).0 (point_ties_are p q hp hq ∙ e) in (
      sym (point_order_is p r hp hr) ∙ point_order_total.congr p q r tie ∙ point_order_is q r hq hr,
      sym (point_order_is r p hr hp) ∙ alike_right point_order_total p q r tie ∙ point_order_is r q hr hq,
    )

pub least_mediant_is_between : (p q : Point) → IsPoint p → IsPoint q → IsPoint (mediant p q) → IsBetween p (least_form (mediant p q)) q
least_mediant_is_between p q hp hq hm =
    let between = mediant_is_between p q in
    let m = mediant p q in
    let least = least_is_point m hm in
    record {
      from_first = (same_compares (least_form m) m p least hm hp (least_is_same m)).1 ∙ between.from_first;
      to_second = (same_compares (least_form m) m q least hm hq (least_is_same m)).0 ∙ between.to_second;
    }
