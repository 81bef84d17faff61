-- Points on one line: what lies between two in the order of points is a sum of them, and sums keep the order.
use Rattle.std.proofs.Common.{ℕ, zero, suc, ◌+◌, ◌<◌, ℤ, pos, ◌+ℤ◌, ◌-ℤ◌, ◌*ℤ◌, ◌≤ℤ◌, ◌<ℤ◌, ◌≡◌, ◌⊎◌, inl, inr, refl, ap, ap₂, ◌∙◌, [], ◌∷◌, arith}
use borrow.Author.Differences.{ints}
use Rattle.std.specs.declared.cmp.Ordering.TheVariants.{Less}
use Rattle.geometry_model.specs.Points.{Position, Point, IsPoint, compare}
use Rattle.geometry_model.specs.Geometries.{Edge}
use Rattle.geometry_model.specs.Sides.{side}
use Rattle.geometry_model.specs.Dimensions.{area, weighted}
use Rattle.basics.proofs.Ring.{Expr, solve, var, lit, ◌⊕◌, ◌⊖◌, ◌⊗◌}
use Rattle.basics.proofs.Signs.{strict_plus_plus, plus_plus, zero_product, is_or_not}
use Rattle.basics.proofs.Orders.{gap_positive, gap_none, less_from_gap, same_from_gap, zero_not_positive, weak_positive, sum_weak, natural_weak, no_difference}
use Rattle.geometry_laws.proofs.Plane.{right}
use Rattle.geometry_laws.proofs.Identities.{right', area', U, V, P, values}
use Rattle.geometry_laws.proofs.LeftToRight.{right_trans_first, right_trans_last}
use Rattle.geometry_laws.proofs.Hulls.{OnHull}
use Rattle.geometry_laws.proofs.Lines.{sum_positive}
use Rattle.geometry_laws.proofs.PointOrder.{Before, before, less_from_before}

-- how far b lies above a, times the two denominators
abbrev pub up : Point → Point → ℤ
up a b = b.Y *ℤ a.W -ℤ a.Y *ℤ b.W

-- the first number is above 0, or is 0 and the second is above 0
abbrev pub Lex : ℤ → ℤ → Type 0
Lex s t = (pos 0 <ℤ s) ⊎ ((s ≡ pos 0) × (pos 0 <ℤ t))

-- Less says that the second point is further right, or straight above
pub lex_of_less : (p q : Point) → compare p q ≡ Less → Lex (right p q) (up p q)
lex_of_less p q e = go (before p q e)
  where
    go : Before p q → Lex (right p q) (up p q)
    go (inl h) = inl (gap_positive (p.X *ℤ q.W) (q.X *ℤ p.W) h)
    go (inr h) = inr (gap_none (p.X *ℤ q.W) (q.X *ℤ p.W) h.0, gap_positive (p.Y *ℤ q.W) (q.Y *ℤ p.W) h.1)

-- and where it is so, the points compare as Less
pub less_of_lex : (p q : Point) → Lex (right p q) (up p q) → compare p q ≡ Less
less_of_lex p q l = less_from_before p q (go l)
  where
    go : Lex (right p q) (up p q) → Before p q
    go (inl h) = inl (less_from_gap (p.X *ℤ q.W) (q.X *ℤ p.W) h)
    go (inr h) = inr (same_from_gap (p.X *ℤ q.W) (q.X *ℤ p.W) h.0, less_from_gap (p.Y *ℤ q.W) (q.Y *ℤ p.W) h.1)

-- ---- sums
-- a weighted sum of two pairs that are above 0 in this order is above 0 in it
lex_sum : (m n : ℕ) (a a' b b' : ℤ) → 0 < m + n → Lex a a' → Lex b b' → Lex (pos m *ℤ a +ℤ pos n *ℤ b) (pos m *ℤ a' +ℤ pos n *ℤ b')
lex_sum m n a a' b b' h (inl s) (inl t) = inl (sum_positive m n a b h s t)
lex_sum zero n a a' b b' h (inl s) (inr t) = inr (nothing, only)
  where
    some : (n : ℕ) → 0 < 0 + n → pos 0 <ℤ pos n
    some n h = omega (arith, ints)

    zeros : (a b n : ℤ) → b ≡ pos 0 → pos 0 *ℤ a +ℤ n *ℤ b ≡ pos 0
    zeros a b n e = ap (λ (z : ℤ). pos 0 *ℤ a +ℤ n *ℤ z) e ∙ solve (a ∷ n ∷ []) (lit (pos 0) ⊗ var 0 ⊕ var 1 ⊗ lit (pos 0)) (lit (pos 0)) tt

    nothing : pos 0 *ℤ a +ℤ pos n *ℤ b ≡ pos 0
    nothing = zeros a b (pos n) t.0

    carried : (x y a : ℤ) → x ≡ pos 0 *ℤ a +ℤ y → pos 0 <ℤ y → pos 0 <ℤ x
    carried x y a e k = omega (arith, ints)

    only : pos 0 <ℤ (pos 0 *ℤ a' +ℤ pos n *ℤ b')
    only = carried (pos 0 *ℤ a' +ℤ pos n *ℤ b') (pos n *ℤ b') a' refl (strict_plus_plus (pos n) b' (some n h) t.1)
lex_sum (suc m) n a a' b b' h (inl s) (inr t) = inl (first (pos (suc m) *ℤ a) (pos n *ℤ b) (strict_plus_plus (pos (suc m)) a (some m) s) (zeros (pos n) b t.0))
  where
    some : (m : ℕ) → pos 0 <ℤ pos (suc m)
    some m = omega (arith, ints)

    zeros : (n b : ℤ) → b ≡ pos 0 → n *ℤ b ≡ pos 0
    zeros n b e = ap (λ (z : ℤ). n *ℤ z) e ∙ solve (n ∷ []) (var 0 ⊗ lit (pos 0)) (lit (pos 0)) tt

    first : (x y : ℤ) → pos 0 <ℤ x → y ≡ pos 0 → pos 0 <ℤ (x +ℤ y)
    first x y h e = omega (arith, ints)
lex_sum m zero a a' b b' h (inr s) (inl t) = inr (zeros a b (pos m) s.0, carried (pos m *ℤ a' +ℤ pos 0 *ℤ b') (pos m *ℤ a') b' refl (strict_plus_plus (pos m) a' (some m h) s.1))
  where
    some : (m : ℕ) → 0 < m + 0 → pos 0 <ℤ pos m
    some m h = omega (arith, ints)

    zeros : (a b m : ℤ) → a ≡ pos 0 → m *ℤ a +ℤ pos 0 *ℤ b ≡ pos 0
    zeros a b m e = ap (λ (z : ℤ). m *ℤ z +ℤ pos 0 *ℤ b) e ∙ solve (b ∷ m ∷ []) (var 1 ⊗ lit (pos 0) ⊕ lit (pos 0) ⊗ var 0) (lit (pos 0)) tt

    carried : (x y b : ℤ) → x ≡ y +ℤ pos 0 *ℤ b → pos 0 <ℤ y → pos 0 <ℤ x
    carried x y b e k = omega (arith, ints)
lex_sum m (suc n) a a' b b' h (inr s) (inl t) = inl (last (pos m *ℤ a) (pos (suc n) *ℤ b) (zeros (pos m) a s.0) (strict_plus_plus (pos (suc n)) b (some n) t))
  where
    some : (m : ℕ) → pos 0 <ℤ pos (suc m)
    some m = omega (arith, ints)

    zeros : (n b : ℤ) → b ≡ pos 0 → n *ℤ b ≡ pos 0
    zeros n b e = ap (λ (z : ℤ). n *ℤ z) e ∙ solve (n ∷ []) (var 0 ⊗ lit (pos 0)) (lit (pos 0)) tt

    last : (x y : ℤ) → x ≡ pos 0 → pos 0 <ℤ y → pos 0 <ℤ (x +ℤ y)
    last x y e h = omega (arith, ints)
lex_sum m n a a' b b' h (inr s) (inr t) = inr (zeros (pos m) (pos n) a b s.0 t.0, sum_positive m n a' b' h s.1 t.1)
  where
    zeros : (m n a b : ℤ) → a ≡ pos 0 → b ≡ pos 0 → m *ℤ a +ℤ n *ℤ b ≡ pos 0
    zeros m n a b e f = ap₂ (λ (x y : ℤ). m *ℤ x +ℤ n *ℤ y) e f ∙ solve (m ∷ n ∷ []) (var 0 ⊗ lit (pos 0) ⊕ var 1 ⊗ lit (pos 0)) (lit (pos 0)) tt

-- the difference to a weighted sum is the weighted sum of the differences
after_linear : (x w a b m n p q : ℤ) → (m *ℤ a +ℤ n *ℤ b) *ℤ w -ℤ x *ℤ (m *ℤ p +ℤ n *ℤ q) ≡ m *ℤ (a *ℤ w -ℤ x *ℤ p) +ℤ n *ℤ (b *ℤ w -ℤ x *ℤ q)
after_linear x w a b m n p q = solve (x ∷ w ∷ a ∷ b ∷ m ∷ n ∷ p ∷ q ∷ []) ((var 4 ⊗ var 2 ⊕ var 5 ⊗ var 3) ⊗ var 1 ⊖ var 0 ⊗ (var 4 ⊗ var 6 ⊕ var 5 ⊗ var 7)) (var 4 ⊗ (var 2 ⊗ var 1 ⊖ var 0 ⊗ var 6) ⊕ var 5 ⊗ (var 3 ⊗ var 1 ⊖ var 0 ⊗ var 7)) tt

-- and so is the difference from it
before_linear : (x w a b m n p q : ℤ) → x *ℤ (m *ℤ p +ℤ n *ℤ q) -ℤ (m *ℤ a +ℤ n *ℤ b) *ℤ w ≡ m *ℤ (x *ℤ p -ℤ a *ℤ w) +ℤ n *ℤ (x *ℤ q -ℤ b *ℤ w)
before_linear x w a b m n p q = solve (x ∷ w ∷ a ∷ b ∷ m ∷ n ∷ p ∷ q ∷ []) (var 0 ⊗ (var 4 ⊗ var 6 ⊕ var 5 ⊗ var 7) ⊖ (var 4 ⊗ var 2 ⊕ var 5 ⊗ var 3) ⊗ var 1) (var 4 ⊗ (var 0 ⊗ var 6 ⊖ var 2 ⊗ var 1) ⊕ var 5 ⊗ (var 0 ⊗ var 7 ⊖ var 3 ⊗ var 1)) tt

carry_lex : (s t s' t' : ℤ) → s ≡ s' → t ≡ t' → Lex s' t' → Lex s t
carry_lex s t s' t' e f l = rw (e, f) l

-- what lies after a point, or before it, does so with all its sums
pub after_sum : (c : Point) (m : ℕ) (x : Point) (n : ℕ) (y : Point) → 0 < m + n → compare c x ≡ Less → compare c y ≡ Less → compare c (weighted m x n y) ≡ Less
after_sum c m x n y h e f = less_of_lex c (weighted m x n y) (carry_lex _ _ _ _
    (after_linear c.X c.W x.X y.X (pos m) (pos n) x.W y.W) (after_linear c.Y c.W x.Y y.Y (pos m) (pos n) x.W y.W)
    (lex_sum m n (right c x) (up c x) (right c y) (up c y) h (lex_of_less c x e) (lex_of_less c y f)))

-- and sums of two points that are before it are before it
pub before_sum : (c : Point) (m : ℕ) (x : Point) (n : ℕ) (y : Point) → 0 < m + n → compare x c ≡ Less → compare y c ≡ Less → compare (weighted m x n y) c ≡ Less
before_sum c m x n y h e f = less_of_lex (weighted m x n y) c (carry_lex _ _ _ _
    (before_linear c.X c.W x.X y.X (pos m) (pos n) x.W y.W) (before_linear c.Y c.W x.Y y.Y (pos m) (pos n) x.W y.W)
    (lex_sum m n (right x c) (up x c) (right y c) (up y c) h (lex_of_less x c e) (lex_of_less y c f)))

-- ---- between two on one line
pub record IsSum (p q x : Point) : Type 0 where
  pub k : ℤ
  pub m : ℤ
  pub n : ℤ
  pub from_k : pos 0 <ℤ k
  pub from_m : pos 0 ≤ℤ m
  pub from_n : pos 0 ≤ℤ n
  pub x_is : k *ℤ x.X ≡ m *ℤ p.X +ℤ n *ℤ q.X
  pub y_is : k *ℤ x.Y ≡ m *ℤ p.Y +ℤ n *ℤ q.Y
  pub w_is : k *ℤ x.W ≡ m *ℤ p.W +ℤ n *ℤ q.W

-- the side of the point at three variables, the positions being at 0 to 3
abbrev side_of : ℕ → ℕ → ℕ → Expr
side_of x y w = (var 2 ⊖ var 0) ⊗ (var y ⊖ var 1 ⊗ var w) ⊖ (var 3 ⊖ var 1) ⊗ (var x ⊖ var 0 ⊗ var w)

-- p is U, q is V, x is P
-- on one line a multiple of x is a sum of p and q, the distances to the right being the weights: X
pub x_across : (p q x : Point) → right p q *ℤ x.X ≡ right x q *ℤ p.X +ℤ right p x *ℤ q.X
x_across p q x = solve (values p q x x) (right' U V ⊗ P.X) (right' P V ⊗ U.X ⊕ right' U P ⊗ V.X) tt

-- and the denominators
pub w_across : (p q x : Point) → right p q *ℤ x.W ≡ right x q *ℤ p.W +ℤ right p x *ℤ q.W
w_across p q x = solve (values p q x x) (right' U V ⊗ P.W) (right' P V ⊗ U.W ⊕ right' U P ⊗ V.W) tt

-- and Y, up to the area of the three, which is 0 on one line
pub y_across : (p q x : Point) → right p q *ℤ x.Y ≡ (right x q *ℤ p.Y +ℤ right p x *ℤ q.Y) +ℤ area p q x
y_across p q x = solve (values p q x x) (right' U V ⊗ P.Y) ((right' P V ⊗ U.Y ⊕ right' U P ⊗ V.Y) ⊕ area' U V P) tt

-- the same with the distances upwards, for a vertical line: Y
y_upright : (p q x : Point) → up p q *ℤ x.Y ≡ up x q *ℤ p.Y +ℤ up p x *ℤ q.Y
y_upright p q x = solve (p.Y ∷ p.W ∷ q.Y ∷ q.W ∷ x.Y ∷ x.W ∷ []) ((var 2 ⊗ var 1 ⊖ var 0 ⊗ var 3) ⊗ var 4) ((var 2 ⊗ var 5 ⊖ var 4 ⊗ var 3) ⊗ var 0 ⊕ (var 4 ⊗ var 1 ⊖ var 0 ⊗ var 5) ⊗ var 2) tt

-- and the denominators
w_upright : (p q x : Point) → up p q *ℤ x.W ≡ up x q *ℤ p.W +ℤ up p x *ℤ q.W
w_upright p q x = solve (p.Y ∷ p.W ∷ q.Y ∷ q.W ∷ x.Y ∷ x.W ∷ []) ((var 2 ⊗ var 1 ⊖ var 0 ⊗ var 3) ⊗ var 5) ((var 2 ⊗ var 5 ⊖ var 4 ⊗ var 3) ⊗ var 1 ⊕ (var 4 ⊗ var 1 ⊖ var 0 ⊗ var 5) ⊗ var 3) tt

-- and X, up to the area of the three
x_upright : (p q x : Point) → up p q *ℤ x.X ≡ (up x q *ℤ p.X +ℤ up p x *ℤ q.X) -ℤ area p q x
x_upright p q x = solve (values p q x x) ((V.Y ⊗ U.W ⊖ U.Y ⊗ V.W) ⊗ P.X) (((V.Y ⊗ P.W ⊖ P.Y ⊗ V.W) ⊗ U.X ⊕ (P.Y ⊗ U.W ⊖ U.Y ⊗ P.W) ⊗ V.X) ⊖ area' U V P) tt

pub drop_area : (s t a : ℤ) → s ≡ t +ℤ a → a ≡ pos 0 → s ≡ t
drop_area s t a e f = omega (arith, ints)

drop_area_back : (s t a : ℤ) → s ≡ t -ℤ a → a ≡ pos 0 → s ≡ t
drop_area_back s t a e f = omega (arith, ints)

-- the first of such two numbers is at least 0
pub lex_weak : (s t : ℤ) → Lex s t → pos 0 ≤ℤ s
lex_weak s t (inl h) = weak s h
  where
    weak : (s : ℤ) → pos 0 <ℤ s → pos 0 ≤ℤ s
    weak s h = omega (arith, ints)
lex_weak s t (inr h) = weak s h.0
  where
    weak : (s : ℤ) → s ≡ pos 0 → pos 0 ≤ℤ s
    weak s h = omega (arith, ints)

-- a point on the line of p and q, after p and before q, is a sum of both: by the distances to the right, or upwards
pub sum_between : (p q x : Point) → IsPoint p → IsPoint q → IsPoint x → area p q x ≡ pos 0 → compare p x ≡ Less → compare x q ≡ Less → compare p q ≡ Less → IsSum p q x
sum_between p q x hp hq hx a e f g = go (lex_of_less p q g) (lex_of_less p x e) (lex_of_less x q f)
  where
    across : pos 0 <ℤ right p q → IsSum p q x
    across h = record {
      k = right p q;
      m = right x q;
      n = right p x;
      from_k = h;
      from_m = lex_weak (right x q) (up x q) (lex_of_less x q f);
      from_n = lex_weak (right p x) (up p x) (lex_of_less p x e);
      x_is = x_across p q x;
      y_is = drop_area _ _ (area p q x) (y_across p q x) a;
      w_is = w_across p q x;
    }

    upright : pos 0 <ℤ up p q → pos 0 ≤ℤ up x q → pos 0 ≤ℤ up p x → IsSum p q x
    upright h s t = record {
      k = up p q;
      m = up x q;
      n = up p x;
      from_k = h;
      from_m = s;
      from_n = t;
      x_is = drop_area_back _ _ (area p q x) (x_upright p q x) a;
      y_is = y_upright p q x;
      w_is = w_upright p q x;
    }

    go : Lex (right p q) (up p q) → Lex (right p x) (up p x) → Lex (right x q) (up x q) → IsSum p q x
    go (inl h) s t = across h
    go (inr h) (inl s) t = absurd (zero_not_positive (right p q) h.0 (right_trans_first p x q hp hx hq s (lex_weak (right x q) (up x q) t)))
    go (inr h) (inr s) (inl t) = absurd (zero_not_positive (right p q) h.0 (right_trans_last p x q hp hx hq (lex_weak (right p x) (up p x) (inr s)) t))
    go (inr h) (inr s) (inr t) = upright h.1 (weak_positive (up x q) t.1) (weak_positive (up p x) s.1)

-- ---- an edge holds the sums of its points
-- sums put into a sum are a sum, the weights being multiplied
linear : (k m n kp kq a b mp np mq nq x p q : ℤ) → k *ℤ x ≡ m *ℤ p +ℤ n *ℤ q → kp *ℤ p ≡ mp *ℤ a +ℤ np *ℤ b → kq *ℤ q ≡ mq *ℤ a +ℤ nq *ℤ b
    → (k *ℤ kp *ℤ kq) *ℤ x ≡ (m *ℤ kq *ℤ mp +ℤ n *ℤ kp *ℤ mq) *ℤ a +ℤ (m *ℤ kq *ℤ np +ℤ n *ℤ kp *ℤ nq) *ℤ b
linear k m n kp kq a b mp np mq nq x p q e f g =
    solve (k ∷ kp ∷ kq ∷ x ∷ []) ((var 0 ⊗ var 1 ⊗ var 2) ⊗ var 3) ((var 1 ⊗ var 2) ⊗ (var 0 ⊗ var 3)) tt
    ∙ ap (λ (z : ℤ). (kp *ℤ kq) *ℤ z) e
    ∙ solve (m ∷ n ∷ kp ∷ kq ∷ p ∷ q ∷ []) ((var 2 ⊗ var 3) ⊗ (var 0 ⊗ var 4 ⊕ var 1 ⊗ var 5)) ((var 0 ⊗ var 3) ⊗ (var 2 ⊗ var 4) ⊕ (var 1 ⊗ var 2) ⊗ (var 3 ⊗ var 5)) tt
    ∙ ap₂ (λ (s t : ℤ). (m *ℤ kq) *ℤ s +ℤ (n *ℤ kp) *ℤ t) f g
    ∙ solve (m ∷ n ∷ kp ∷ kq ∷ mp ∷ np ∷ mq ∷ nq ∷ a ∷ b ∷ [])
    ((var 0 ⊗ var 3) ⊗ (var 4 ⊗ var 8 ⊕ var 5 ⊗ var 9) ⊕ (var 1 ⊗ var 2) ⊗ (var 6 ⊗ var 8 ⊕ var 7 ⊗ var 9))
    ((var 0 ⊗ var 3 ⊗ var 4 ⊕ var 1 ⊗ var 2 ⊗ var 6) ⊗ var 8 ⊕ (var 0 ⊗ var 3 ⊗ var 5 ⊕ var 1 ⊗ var 2 ⊗ var 7) ⊗ var 9) tt

-- and the denominators, the sums of the weights, come out alike
linear_one : (k m n kp kq mp np mq nq x p q : ℤ) → k *ℤ x ≡ m *ℤ p +ℤ n *ℤ q → kp *ℤ p ≡ mp +ℤ np → kq *ℤ q ≡ mq +ℤ nq
    → (k *ℤ kp *ℤ kq) *ℤ x ≡ (m *ℤ kq *ℤ mp +ℤ n *ℤ kp *ℤ mq) +ℤ (m *ℤ kq *ℤ np +ℤ n *ℤ kp *ℤ nq)
linear_one k m n kp kq mp np mq nq x p q e f g =
    solve (k ∷ kp ∷ kq ∷ x ∷ []) ((var 0 ⊗ var 1 ⊗ var 2) ⊗ var 3) ((var 1 ⊗ var 2) ⊗ (var 0 ⊗ var 3)) tt
    ∙ ap (λ (z : ℤ). (kp *ℤ kq) *ℤ z) e
    ∙ solve (m ∷ n ∷ kp ∷ kq ∷ p ∷ q ∷ []) ((var 2 ⊗ var 3) ⊗ (var 0 ⊗ var 4 ⊕ var 1 ⊗ var 5)) ((var 0 ⊗ var 3) ⊗ (var 2 ⊗ var 4) ⊕ (var 1 ⊗ var 2) ⊗ (var 3 ⊗ var 5)) tt
    ∙ ap₂ (λ (s t : ℤ). (m *ℤ kq) *ℤ s +ℤ (n *ℤ kp) *ℤ t) f g
    ∙ solve (m ∷ n ∷ kp ∷ kq ∷ mp ∷ np ∷ mq ∷ nq ∷ [])
    ((var 0 ⊗ var 3) ⊗ (var 4 ⊕ var 5) ⊕ (var 1 ⊗ var 2) ⊗ (var 6 ⊕ var 7))
    ((var 0 ⊗ var 3 ⊗ var 4 ⊕ var 1 ⊗ var 2 ⊗ var 6) ⊕ (var 0 ⊗ var 3 ⊗ var 5 ⊕ var 1 ⊗ var 2 ⊗ var 7)) tt

three : (a b c : ℤ) → pos 0 ≤ℤ a → pos 0 ≤ℤ b → pos 0 ≤ℤ c → pos 0 ≤ℤ (a *ℤ b *ℤ c)
three a b c h k l = plus_plus (a *ℤ b) c (plus_plus a b h k) l

-- so a sum of two points of an edge is a sum of its ends
pub on_sum : (e : Edge) (p q x : Point) → OnHull e p → OnHull e q → IsSum p q x → OnHull e x
on_sum e p q x h g s = record {
  k = s.k *ℤ h.k *ℤ g.k;
  m = s.m *ℤ g.k *ℤ h.m +ℤ s.n *ℤ h.k *ℤ g.m;
  n = s.m *ℤ g.k *ℤ h.n +ℤ s.n *ℤ h.k *ℤ g.n;
  from_k = strict_plus_plus (s.k *ℤ h.k) g.k (strict_plus_plus s.k h.k s.from_k h.from_k) g.from_k;
  from_m = sum_weak _ _ (three s.m g.k h.m s.from_m (weak_positive g.k g.from_k) h.from_m) (three s.n h.k g.m s.from_n (weak_positive h.k h.from_k) g.from_m);
  from_n = sum_weak _ _ (three s.m g.k h.n s.from_m (weak_positive g.k g.from_k) h.from_n) (three s.n h.k g.n s.from_n (weak_positive h.k h.from_k) g.from_n);
  x_is = linear s.k s.m s.n h.k g.k e.start.x e.end.x h.m h.n g.m g.n x.X p.X q.X s.x_is h.x_is g.x_is;
  y_is = linear s.k s.m s.n h.k g.k e.start.y e.end.y h.m h.n g.m g.n x.Y p.Y q.Y s.y_is h.y_is g.y_is;
  w_is = linear_one s.k s.m s.n h.k g.k h.m h.n g.m g.n x.W p.W q.W s.w_is h.w_is g.w_is;
}

-- a weighted point is such a sum
pub weighted_is_sum : (m : ℕ) (p : Point) (n : ℕ) (q : Point) → IsSum p q (weighted m p n q)
weighted_is_sum m p n q = record {
  k = pos 1;
  m = pos m;
  n = pos n;
  from_k = omega (arith, ints);
  from_m = natural_weak m;
  from_n = natural_weak n;
  x_is = one _;
  y_is = one _;
  w_is = one _;
}
  where
    one : (x : ℤ) → pos 1 *ℤ x ≡ x
    one x = omega (arith, ints)

-- ---- three points on the line of an edge that has two different ends
-- the area of three points, times the breadth of an edge, is a sum of multiples of their sides at it
by_breadth : (a b : Position) (p q r : Point) → (b.x -ℤ a.x) *ℤ area p q r ≡ p.X *ℤ (side a b q *ℤ r.W -ℤ side a b r *ℤ q.W) -ℤ side a b p *ℤ (q.X *ℤ r.W -ℤ r.X *ℤ q.W) +ℤ p.W *ℤ (q.X *ℤ side a b r -ℤ r.X *ℤ side a b q)
by_breadth a b p q r = solve (a.x ∷ a.y ∷ b.x ∷ b.y ∷ p.X ∷ p.Y ∷ p.W ∷ q.X ∷ q.Y ∷ q.W ∷ r.X ∷ r.Y ∷ r.W ∷ [])
    ((var 2 ⊖ var 0) ⊗ (var 4 ⊗ (var 8 ⊗ var 12 ⊖ var 11 ⊗ var 9) ⊖ var 5 ⊗ (var 7 ⊗ var 12 ⊖ var 10 ⊗ var 9) ⊕ var 6 ⊗ (var 7 ⊗ var 11 ⊖ var 10 ⊗ var 8)))
    (var 4 ⊗ (side_of 7 8 9 ⊗ var 12 ⊖ side_of 10 11 12 ⊗ var 9) ⊖ side_of 4 5 6 ⊗ (var 7 ⊗ var 12 ⊖ var 10 ⊗ var 9) ⊕ var 6 ⊗ (var 7 ⊗ side_of 10 11 12 ⊖ var 10 ⊗ side_of 7 8 9)) tt

-- and so it is times the edge's height
by_height : (a b : Position) (p q r : Point) → (a.y -ℤ b.y) *ℤ area p q r ≡ side a b p *ℤ (q.Y *ℤ r.W -ℤ r.Y *ℤ q.W) -ℤ p.Y *ℤ (side a b q *ℤ r.W -ℤ side a b r *ℤ q.W) +ℤ p.W *ℤ (side a b q *ℤ r.Y -ℤ side a b r *ℤ q.Y)
by_height a b p q r = solve (a.x ∷ a.y ∷ b.x ∷ b.y ∷ p.X ∷ p.Y ∷ p.W ∷ q.X ∷ q.Y ∷ q.W ∷ r.X ∷ r.Y ∷ r.W ∷ [])
    ((var 1 ⊖ var 3) ⊗ (var 4 ⊗ (var 8 ⊗ var 12 ⊖ var 11 ⊗ var 9) ⊖ var 5 ⊗ (var 7 ⊗ var 12 ⊖ var 10 ⊗ var 9) ⊕ var 6 ⊗ (var 7 ⊗ var 11 ⊖ var 10 ⊗ var 8)))
    (side_of 4 5 6 ⊗ (var 8 ⊗ var 12 ⊖ var 11 ⊗ var 9) ⊖ var 5 ⊗ (side_of 7 8 9 ⊗ var 12 ⊖ side_of 10 11 12 ⊗ var 9) ⊕ var 6 ⊗ (side_of 7 8 9 ⊗ var 11 ⊖ side_of 10 11 12 ⊗ var 8)) tt

-- three points on the line of an edge span no area, since its breadth or its height isn't 0
pub area_on_line : (a b : Position) (p q r : Point) → (a ≡ b → ⊥) → side a b p ≡ pos 0 → side a b q ≡ pos 0 → side a b r ≡ pos 0 → area p q r ≡ pos 0
area_on_line a b p q r d e f g = go (is_or_not (b.x -ℤ a.x)) (is_or_not (a.y -ℤ b.y))
  where
    wide : (b.x -ℤ a.x) *ℤ area p q r ≡ pos 0
    wide = by_breadth a b p q r
        ∙ ap (λ (z : ℤ). p.X *ℤ (side a b q *ℤ r.W -ℤ side a b r *ℤ q.W) -ℤ z *ℤ (q.X *ℤ r.W -ℤ r.X *ℤ q.W) +ℤ p.W *ℤ (q.X *ℤ side a b r -ℤ r.X *ℤ side a b q)) e
        ∙ ap₂ (λ (y z : ℤ). p.X *ℤ (y *ℤ r.W -ℤ z *ℤ q.W) -ℤ pos 0 *ℤ (q.X *ℤ r.W -ℤ r.X *ℤ q.W) +ℤ p.W *ℤ (q.X *ℤ z -ℤ r.X *ℤ y)) f g
        ∙ solve (p.X ∷ p.W ∷ q.X ∷ q.W ∷ r.X ∷ r.W ∷ []) (var 0 ⊗ (lit (pos 0) ⊗ var 5 ⊖ lit (pos 0) ⊗ var 3) ⊖ lit (pos 0) ⊗ (var 2 ⊗ var 5 ⊖ var 4 ⊗ var 3) ⊕ var 1 ⊗ (var 2 ⊗ lit (pos 0) ⊖ var 4 ⊗ lit (pos 0))) (lit (pos 0)) tt

    high : (a.y -ℤ b.y) *ℤ area p q r ≡ pos 0
    high = by_height a b p q r
        ∙ ap (λ (z : ℤ). z *ℤ (q.Y *ℤ r.W -ℤ r.Y *ℤ q.W) -ℤ p.Y *ℤ (side a b q *ℤ r.W -ℤ side a b r *ℤ q.W) +ℤ p.W *ℤ (side a b q *ℤ r.Y -ℤ side a b r *ℤ q.Y)) e
        ∙ ap₂ (λ (y z : ℤ). pos 0 *ℤ (q.Y *ℤ r.W -ℤ r.Y *ℤ q.W) -ℤ p.Y *ℤ (y *ℤ r.W -ℤ z *ℤ q.W) +ℤ p.W *ℤ (y *ℤ r.Y -ℤ z *ℤ q.Y)) f g
        ∙ solve (p.Y ∷ p.W ∷ q.Y ∷ q.W ∷ r.Y ∷ r.W ∷ []) (lit (pos 0) ⊗ (var 2 ⊗ var 5 ⊖ var 4 ⊗ var 3) ⊖ var 0 ⊗ (lit (pos 0) ⊗ var 5 ⊖ lit (pos 0) ⊗ var 3) ⊕ var 1 ⊗ (lit (pos 0) ⊗ var 4 ⊖ lit (pos 0) ⊗ var 2)) (lit (pos 0)) tt

    pick : (z w : ℤ) → (z ≡ pos 0 → ⊥) → (z ≡ pos 0) ⊎ (w ≡ pos 0) → w ≡ pos 0
    pick z w n (inl e) = absurd (n e)
    pick z w n (inr e) = e

    go : ((b.x -ℤ a.x ≡ pos 0) ⊎ (b.x -ℤ a.x ≡ pos 0 → ⊥)) → ((a.y -ℤ b.y ≡ pos 0) ⊎ (a.y -ℤ b.y ≡ pos 0 → ⊥)) → area p q r ≡ pos 0
    go (inr n) t = pick (b.x -ℤ a.x) (area p q r) n (zero_product (b.x -ℤ a.x) (area p q r) wide)
    go (inl s) (inr n) = pick (a.y -ℤ b.y) (area p q r) n (zero_product (a.y -ℤ b.y) (area p q r) high)
    go (inl s) (inl t) = absurd (d (λ i. record { x = same_from_gap a.x b.x s i; y = no_difference a.y b.y t i }))
