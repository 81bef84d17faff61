-- Equality and order of rational points.
use Rattle.std.proofs.Common.{ℤ, pos, ◌+ℤ◌, ◌-ℤ◌, ◌*ℤ◌, ◌≤ℤ◌, ◌<ℤ◌, ◌≡◌, ◌⊎◌, inl, inr, ◌↔◌, Bool, true, ◌&&◌, refl, sym, ap, ap₂, ◌∙◌, [], ◌∷◌, arith}
use borrow.Author.Differences.{ints}
use Rattle.std.specs.declared.cmp.Ordering.{Ordering}
use Rattle.std.specs.declared.cmp.Ordering.TheVariants.{Less, Equal, Greater}
use Rattle.std.specs.Ordering.{int_cmp, ordering_then}
use Rattle.geometry_model.specs.Points.{Point, IsPoint, same_point, compare, compare_x, compare_y, mediant}
use Rattle.basics.proofs.Ring.{solve, var, ◌⊕◌, ◌⊖◌, ◌⊗◌}
use Rattle.basics.proofs.Signs.{three_ways}
use Rattle.basics.proofs.Quotients.{trans_less, trans_same, trans_at_most}
use Rattle.basics.proofs.Tests.{cmp_less, cmp_equal, cmp_greater, cmp_less_from, cmp_equal_from, same_equal}
use Rattle.basics.proofs.Orders.{then_less, then_equal, less_weak, sum_positive}
use Rattle.geometry_laws.specs.PointLaws.{reversed}
use Rattle.geometry_laws.proofs.Scaling.{same_x, same_y, same_from}

-- a point is the same as itself: its coordinates agree with themselves, multiplied across
pub same_reflexive : (p : Point) → same_point p p ≡ true
same_reflexive p = same_from p p refl refl

-- the order of two points in the test doesn't matter, since an equation holds in both directions
pub same_symmetric : (p q : Point) → same_point p q ≡ same_point q p
same_symmetric p q = ap₂ (λ (x y : Bool). x && y) (same_equal (p.X *ℤ q.W) (q.X *ℤ p.W) (q.X *ℤ p.W) (p.X *ℤ q.W) (λ e. sym e) (λ e. sym e)) (same_equal (p.Y *ℤ q.W) (q.Y *ℤ p.W) (q.Y *ℤ p.W) (p.Y *ℤ q.W) (λ e. sym e) (λ e. sym e))

-- two points that are the same as a third are the same: the third's denominator isn't 0, so it cancels
pub same_transitive : (p q r : Point) → IsPoint q → same_point p q ≡ true → same_point q r ≡ true → same_point p r ≡ true
same_transitive p q r hq e f = same_from p r
    (trans_same p.X p.W q.X q.W r.X r.W hq (same_x p q e) (same_x q r f))
    (trans_same p.Y p.W q.Y q.W r.Y r.W hq (same_y p q e) (same_y q r f))

-- ---- the order
-- two numbers compared the other way round give the reversed answer
cmp_reversed : (a b : ℤ) → int_cmp b a ≡ reversed (int_cmp a b)
cmp_reversed a b = go (three_ways a b)
  where
    go : (a <ℤ b) ⊎ ((a ≡ b) ⊎ (b <ℤ a)) → int_cmp b a ≡ reversed (int_cmp a b)
    go (inl h) = cmp_greater b a h ∙ ap reversed (sym (cmp_less a b h))
    go (inr (inl h)) = cmp_equal b a (sym h) ∙ ap reversed (sym (cmp_equal a b h))
    go (inr (inr h)) = cmp_less b a h ∙ ap reversed (sym (cmp_greater a b h))

-- where the answers for x and for y are reversed, so is the answer for both
then_reversed : (o u : Ordering) → ordering_then (reversed o) (reversed u) ≡ reversed (ordering_then o u)
then_reversed Less u = refl
then_reversed Equal u = refl
then_reversed Greater u = refl

-- so points compared the other way round give the reversed answer
pub compare_reversed : (p q : Point) → compare q p ≡ reversed (compare p q)
compare_reversed p q = ap₂ ordering_then (cmp_reversed (p.X *ℤ q.W) (q.X *ℤ p.W)) (cmp_reversed (p.Y *ℤ q.W) (q.Y *ℤ p.W)) ∙ then_reversed (compare_x p q) (compare_y p q)

-- points are equal in the order exactly where they agree in x and in y, so where they are one point
pub equal_is_same : (p q : Point) → (compare p q ≡ Equal) ↔ (same_point p q ≡ true)
equal_is_same p q = (
  λ e. let both : (compare_x p q ≡ Equal) × (compare_y p q ≡ Equal) = then_equal (compare_x p q) (compare_y p q) e in
      same_from p q (cmp_equal_from (p.X *ℤ q.W) (q.X *ℤ p.W) both.0) (cmp_equal_from (p.Y *ℤ q.W) (q.Y *ℤ p.W) both.1),
  λ e. ap₂ ordering_then (cmp_equal (p.X *ℤ q.W) (q.X *ℤ p.W) (same_x p q e)) (cmp_equal (p.Y *ℤ q.W) (q.Y *ℤ p.W) (same_y p q e)),
)

abbrev pub Before : Point → Point → Type 0
Before p q = ((p.X *ℤ q.W) <ℤ (q.X *ℤ p.W)) ⊎ ((p.X *ℤ q.W ≡ q.X *ℤ p.W) × ((p.Y *ℤ q.W) <ℤ (q.Y *ℤ p.W)))

-- what Less says of the coordinates
pub before : (p q : Point) → compare p q ≡ Less → Before p q
before p q e = go (then_less (compare_x p q) (compare_y p q) e)
  where
    go : (compare_x p q ≡ Less) ⊎ ((compare_x p q ≡ Equal) × (compare_y p q ≡ Less)) → Before p q
    go (inl h) = inl (cmp_less_from (p.X *ℤ q.W) (q.X *ℤ p.W) h)
    go (inr h) = inr (cmp_equal_from (p.X *ℤ q.W) (q.X *ℤ p.W) h.0, cmp_less_from (p.Y *ℤ q.W) (q.Y *ℤ p.W) h.1)

-- and coordinates that are so compare as Less
pub less_from_before : (p q : Point) → Before p q → compare p q ≡ Less
less_from_before p q (inl h) = ap (λ (o : Ordering). ordering_then o (compare_y p q)) (cmp_less (p.X *ℤ q.W) (q.X *ℤ p.W) h)
less_from_before p q (inr h) = ap₂ ordering_then (cmp_equal (p.X *ℤ q.W) (q.X *ℤ p.W) h.0) (cmp_less (p.Y *ℤ q.W) (q.Y *ℤ p.W) h.1)

-- quotients: less than what is the same as a third, and the other way round
less_same : (a m b n c k : ℤ) → pos 0 <ℤ m → pos 0 <ℤ n → pos 0 <ℤ k → (a *ℤ n) <ℤ (b *ℤ m) → b *ℤ k ≡ c *ℤ n → (a *ℤ k) <ℤ (c *ℤ m)
less_same a m b n c k hm hn hk h e = go (three_ways (a *ℤ k) (c *ℤ m))
  where
    weak : (x y : ℤ) → x ≡ y → y ≤ℤ x
    weak x y e = omega (arith, ints)

    clash : (x y : ℤ) → x <ℤ y → y ≤ℤ x → ⊥
    clash x y h l = omega (arith, ints)

    go : ((a *ℤ k) <ℤ (c *ℤ m)) ⊎ ((a *ℤ k ≡ c *ℤ m) ⊎ ((c *ℤ m) <ℤ (a *ℤ k))) → (a *ℤ k) <ℤ (c *ℤ m)
    go (inl l) = l
    go (inr (inl l)) = absurd (clash (a *ℤ n) (b *ℤ m) h (trans_at_most b n c k a m hn hk hm (weak (c *ℤ n) (b *ℤ k) (sym e)) (weak (a *ℤ k) (c *ℤ m) l)))
    go (inr (inr l)) = absurd (clash (a *ℤ n) (b *ℤ m) h (trans_at_most b n c k a m hn hk hm (weak (c *ℤ n) (b *ℤ k) (sym e)) (less_weak (c *ℤ m) (a *ℤ k) l)))

same_less : (a m b n c k : ℤ) → pos 0 <ℤ m → pos 0 <ℤ n → pos 0 <ℤ k → a *ℤ n ≡ b *ℤ m → (b *ℤ k) <ℤ (c *ℤ n) → (a *ℤ k) <ℤ (c *ℤ m)
same_less a m b n c k hm hn hk e h = go (three_ways (a *ℤ k) (c *ℤ m))
  where
    weak : (x y : ℤ) → x ≡ y → y ≤ℤ x
    weak x y e = omega (arith, ints)

    clash : (x y : ℤ) → x <ℤ y → y ≤ℤ x → ⊥
    clash x y h l = omega (arith, ints)

    go : ((a *ℤ k) <ℤ (c *ℤ m)) ⊎ ((a *ℤ k ≡ c *ℤ m) ⊎ ((c *ℤ m) <ℤ (a *ℤ k))) → (a *ℤ k) <ℤ (c *ℤ m)
    go (inl l) = l
    go (inr (inl l)) = absurd (clash (b *ℤ k) (c *ℤ n) h (trans_at_most c k a m b n hk hm hn (weak (a *ℤ k) (c *ℤ m) l) (weak (b *ℤ m) (a *ℤ n) (sym e))))
    go (inr (inr l)) = absurd (clash (b *ℤ k) (c *ℤ n) h (trans_at_most c k a m b n hk hm hn (less_weak (c *ℤ m) (a *ℤ k) l) (weak (b *ℤ m) (a *ℤ n) (sym e))))

-- before is transitive: by x where the x of two of the three differ, by y where all three have one x
before_trans : (p q r : Point) → IsPoint p → IsPoint q → IsPoint r → Before p q → Before q r → Before p r
before_trans p q r hp hq hr (inl h) (inl k) = inl (trans_less p.X p.W q.X q.W r.X r.W hp hq hr h k)
before_trans p q r hp hq hr (inl h) (inr k) = inl (less_same p.X p.W q.X q.W r.X r.W hp hq hr h k.0)
before_trans p q r hp hq hr (inr h) (inl k) = inl (same_less p.X p.W q.X q.W r.X r.W hp hq hr h.0 k)
before_trans p q r hp hq hr (inr h) (inr k) = inr (trans_same p.X p.W q.X q.W r.X r.W hq h.0 k.0, trans_less p.Y p.W q.Y q.W r.Y r.W hp hq hr h.1 k.1)

-- so the order of points is transitive
pub less_transitive : (p q r : Point) → IsPoint p → IsPoint q → IsPoint r → compare p q ≡ Less → compare q r ≡ Less → compare p r ≡ Less
less_transitive p q r hp hq hr e f = less_from_before p r (before_trans p q r hp hq hr (before p q e) (before q r f))

-- ---- the mediant
-- from a point to its mediant with another it is as far, multiplied across, as to the other point
front : (a m b n : ℤ) → (a +ℤ b) *ℤ m -ℤ a *ℤ (m +ℤ n) ≡ b *ℤ m -ℤ a *ℤ n
front a m b n = solve (a ∷ m ∷ b ∷ n ∷ []) ((var 0 ⊕ var 2) ⊗ var 1 ⊖ var 0 ⊗ (var 1 ⊕ var 3)) (var 2 ⊗ var 1 ⊖ var 0 ⊗ var 3) tt

-- and so it is from the mediant to the other point
back : (a m b n : ℤ) → b *ℤ (m +ℤ n) -ℤ (a +ℤ b) *ℤ n ≡ b *ℤ m -ℤ a *ℤ n
back a m b n = solve (a ∷ m ∷ b ∷ n ∷ []) (var 2 ⊗ (var 1 ⊕ var 3) ⊖ (var 0 ⊕ var 2) ⊗ var 3) (var 2 ⊗ var 1 ⊖ var 0 ⊗ var 3) tt

by_difference : (x y z t : ℤ) → t -ℤ z ≡ y -ℤ x → x <ℤ y → z <ℤ t
by_difference x y z t e h = omega (arith, ints)

same_by_difference : (x y z t : ℤ) → t -ℤ z ≡ y -ℤ x → x ≡ y → z ≡ t
same_by_difference x y z t e h = omega (arith, ints)

-- so a point is before its mediant with a later one
before_mediant : (p q : Point) → Before p q → Before p (mediant p q)
before_mediant p q (inl h) = inl (by_difference (p.X *ℤ q.W) (q.X *ℤ p.W) (p.X *ℤ (p.W +ℤ q.W)) ((p.X +ℤ q.X) *ℤ p.W) (front p.X p.W q.X q.W) h)
before_mediant p q (inr h) = inr (
  same_by_difference (p.X *ℤ q.W) (q.X *ℤ p.W) (p.X *ℤ (p.W +ℤ q.W)) ((p.X +ℤ q.X) *ℤ p.W) (front p.X p.W q.X q.W) h.0,
  by_difference (p.Y *ℤ q.W) (q.Y *ℤ p.W) (p.Y *ℤ (p.W +ℤ q.W)) ((p.Y +ℤ q.Y) *ℤ p.W) (front p.Y p.W q.Y q.W) h.1,
)

-- and the mediant is before the later one
mediant_before : (p q : Point) → Before p q → Before (mediant p q) q
mediant_before p q (inl h) = inl (by_difference (p.X *ℤ q.W) (q.X *ℤ p.W) ((p.X +ℤ q.X) *ℤ q.W) (q.X *ℤ (p.W +ℤ q.W)) (back p.X p.W q.X q.W) h)
mediant_before p q (inr h) = inr (
  same_by_difference (p.X *ℤ q.W) (q.X *ℤ p.W) ((p.X +ℤ q.X) *ℤ q.W) (q.X *ℤ (p.W +ℤ q.W)) (back p.X p.W q.X q.W) h.0,
  by_difference (p.Y *ℤ q.W) (q.Y *ℤ p.W) ((p.Y +ℤ q.Y) *ℤ q.W) (q.Y *ℤ (p.W +ℤ q.W)) (back p.Y p.W q.Y q.W) h.1,
)

-- the mediant's denominator is the sum of two that are above 0
pub mediant_is_point : (p q : Point) → IsPoint p → IsPoint q → IsPoint (mediant p q)
mediant_is_point p q hp hq = sum_positive p.W q.W hp hq

-- the mediant of two points is a point strictly between them
pub mediant_between : (p q : Point) → IsPoint p → IsPoint q → compare p q ≡ Less → IsPoint (mediant p q) × (compare p (mediant p q) ≡ Less) × (compare (mediant p q) q ≡ Less)
mediant_between p q hp hq e = (mediant_is_point p q hp hq, less_from_before p (mediant p q) (before_mediant p q (before p q e)), less_from_before (mediant p q) q (mediant_before p q (before p q e)))
