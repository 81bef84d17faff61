-- The points on an edge are the sums of its ends with weights of at least 0.
use Rattle.std.proofs.Common.{ℤ, pos, ◌+ℤ◌, ◌-ℤ◌, ◌*ℤ◌, ◌≤ℤ◌, ◌<ℤ◌, int_le, ◌≡◌, ◌⊎◌, inl, inr, true, ◌&&◌, sym, ap, ap₂, ◌∙◌, [], ◌∷◌, arith}
use borrow.Author.Differences.{ints}
use Rattle.std.specs.Ordering.{int_eq}
use Rattle.std.proofs.lemmas.Bool.{or_right, or_left, and_parts, and_from}
use Rattle.geometry_model.specs.Points.{Position, Point, IsPoint}
use Rattle.geometry_model.specs.Geometries.{Edge}
use Rattle.geometry_model.specs.Sides.{side, on, between}
use Rattle.basics.proofs.Ring.{solve, var, lit, ◌⊕◌, ◌⊖◌, ◌⊗◌}
use Rattle.basics.proofs.Signs.{plus_plus, minus_minus, plus_minus, cancel_nonnegative, cancel_nonpositive, cancel_zero, at_most_or_less, at_most_yes, is_or_not}
use Rattle.basics.proofs.Tests.{equal_from, equal_yes}
use Rattle.basics.proofs.Orders.{between_cases, gap_weak, at_most_from_gap, at_most_at_most, sum_weak, same_from_gap, weak_positive, gap_none}
use Rattle.geometry_laws.proofs.LineSides.{square, weight, square', weight', weights_cancel, x_of, y_of, drop_zero, square_positive}

-- a multiple of p is a sum of the edge's ends, with weights of at least 0
pub record OnHull (e : Edge) (p : Point) : Type 0 where
  pub k : ℤ
  pub m : ℤ
  pub n : ℤ
  pub from_k : pos 0 <ℤ k
  pub from_m : pos 0 ≤ℤ m
  pub from_n : pos 0 ≤ℤ n
  pub x_is : k *ℤ p.X ≡ m *ℤ e.start.x +ℤ n *ℤ e.end.x
  pub y_is : k *ℤ p.Y ≡ m *ℤ e.start.y +ℤ n *ℤ e.end.y
  pub w_is : k *ℤ p.W ≡ m +ℤ n

-- ---- one coordinate
-- the distance of a weighted sum from the first end is the range times the second's weight
from_first : (a b x w k m n : ℤ) → k *ℤ x ≡ m *ℤ a +ℤ n *ℤ b → k *ℤ w ≡ m +ℤ n → k *ℤ (x -ℤ a *ℤ w) ≡ n *ℤ (b -ℤ a)
from_first a b x w k m n e f = solve (k ∷ x ∷ a ∷ w ∷ []) (var 0 ⊗ (var 1 ⊖ var 2 ⊗ var 3)) (var 0 ⊗ var 1 ⊖ var 2 ⊗ (var 0 ⊗ var 3)) tt
    ∙ ap₂ (λ (s t : ℤ). s -ℤ a *ℤ t) e f ∙ solve (a ∷ b ∷ m ∷ n ∷ []) ((var 2 ⊗ var 0 ⊕ var 3 ⊗ var 1) ⊖ var 0 ⊗ (var 2 ⊕ var 3)) (var 3 ⊗ (var 1 ⊖ var 0)) tt

-- and its distance to the second end is the range times the first's weight
to_last : (a b x w k m n : ℤ) → k *ℤ x ≡ m *ℤ a +ℤ n *ℤ b → k *ℤ w ≡ m +ℤ n → k *ℤ (b *ℤ w -ℤ x) ≡ m *ℤ (b -ℤ a)
to_last a b x w k m n e f = solve (k ∷ x ∷ b ∷ w ∷ []) (var 0 ⊗ (var 2 ⊗ var 3 ⊖ var 1)) (var 2 ⊗ (var 0 ⊗ var 3) ⊖ var 0 ⊗ var 1) tt
    ∙ ap₂ (λ (s t : ℤ). b *ℤ t -ℤ s) e f ∙ solve (a ∷ b ∷ m ∷ n ∷ []) (var 1 ⊗ (var 2 ⊕ var 3) ⊖ (var 2 ⊗ var 0 ⊕ var 3 ⊗ var 1)) (var 2 ⊗ (var 1 ⊖ var 0)) tt

-- so with weights of at least 0 a sum lies between the ends in each coordinate
pub between_from : (a b x w k m n : ℤ) → pos 0 <ℤ k → pos 0 ≤ℤ m → pos 0 ≤ℤ n → k *ℤ x ≡ m *ℤ a +ℤ n *ℤ b → k *ℤ w ≡ m +ℤ n → between a b x w ≡ true
between_from a b x w k m n hk hm hn e f = go (at_most_or_less a b)
  where
    apart_back : (s t : ℤ) → s <ℤ t → (s -ℤ t) ≤ℤ pos 0
    apart_back s t h = omega (arith, ints)

    back : (s t : ℤ) → (t -ℤ s) ≤ℤ pos 0 → t ≤ℤ s
    back s t h = omega (arith, ints)

    weak : (s t : ℤ) → s ≡ t → pos 0 ≤ℤ t → pos 0 ≤ℤ s
    weak s t e h = omega (arith, ints)

    weak_back : (s t : ℤ) → s ≡ t → t ≤ℤ pos 0 → s ≤ℤ pos 0
    weak_back s t e h = omega (arith, ints)

    go : (a ≤ℤ b) ⊎ (b <ℤ a) → between a b x w ≡ true
    go (inl h) = or_left (int_le (a *ℤ w) x && int_le x (b *ℤ w)) (int_le (b *ℤ w) x && int_le x (a *ℤ w)) (and_from (int_le (a *ℤ w) x) (int_le x (b *ℤ w))
        (at_most_yes (a *ℤ w) x (at_most_from_gap (a *ℤ w) x (cancel_nonnegative k (x -ℤ a *ℤ w) hk (weak _ _ (from_first a b x w k m n e f) (plus_plus n (b -ℤ a) hn (gap_weak a b h))))))
        (at_most_yes x (b *ℤ w) (at_most_from_gap x (b *ℤ w) (cancel_nonnegative k (b *ℤ w -ℤ x) hk (weak _ _ (to_last a b x w k m n e f) (plus_plus m (b -ℤ a) hm (gap_weak a b h)))))))
    go (inr h) = or_right (int_le (a *ℤ w) x && int_le x (b *ℤ w)) (int_le (b *ℤ w) x && int_le x (a *ℤ w)) (and_from (int_le (b *ℤ w) x) (int_le x (a *ℤ w))
        (at_most_yes (b *ℤ w) x (back x (b *ℤ w) (cancel_nonpositive k (b *ℤ w -ℤ x) hk (weak_back _ _ (to_last a b x w k m n e f) (plus_minus m (b -ℤ a) hm (apart_back b a h))))))
        (at_most_yes x (a *ℤ w) (back (a *ℤ w) x (cancel_nonpositive k (x -ℤ a *ℤ w) hk (weak_back _ _ (from_first a b x w k m n e f) (plus_minus n (b -ℤ a) hn (apart_back b a h)))))))

-- ---- a sum of the ends is on the edge
-- its side is 0, and it lies between the ends in both coordinates
pub on_from_hull : (e : Edge) (p : Point) → OnHull e p → on e p ≡ true
on_from_hull e p h = and_from (int_eq (side e.start e.end p) (pos 0) && between e.start.x e.end.x p.X p.W) (between e.start.y e.end.y p.Y p.W)
    (and_from (int_eq (side e.start e.end p) (pos 0)) (between e.start.x e.end.x p.X p.W)
    (equal_yes (side e.start e.end p) (pos 0) (cancel_zero h.k (side e.start e.end p) h.from_k (weights_cancel e.start e.end p h.k h.m h.n h.x_is h.y_is h.w_is)))
    (between_from e.start.x e.end.x p.X p.W h.k h.m h.n h.from_k h.from_m h.from_n h.x_is h.w_is))
    (between_from e.start.y e.end.y p.Y p.W h.k h.m h.n h.from_k h.from_m h.from_n h.y_is h.w_is)

-- ---- a point on the edge is such a sum
pub record OnParts (e : Edge) (p : Point) : Type 0 where
  pub on_line : side e.start e.end p ≡ pos 0
  pub in_x : between e.start.x e.end.x p.X p.W ≡ true
  pub in_y : between e.start.y e.end.y p.Y p.W ≡ true

-- what being on an edge says: on its line, and between its ends in x and in y
pub on_parts : (e : Edge) (p : Point) → on e p ≡ true → OnParts e p
on_parts e p h =
    let outer : (int_eq (side e.start e.end p) (pos 0) && between e.start.x e.end.x p.X p.W ≡ true) × (between e.start.y e.end.y p.Y p.W ≡ true) = and_parts (int_eq (side e.start e.end p) (pos 0) && between e.start.x e.end.x p.X p.W) (between e.start.y e.end.y p.Y p.W) h in
    let inner : (int_eq (side e.start e.end p) (pos 0) ≡ true) × (between e.start.x e.end.x p.X p.W ≡ true) = and_parts (int_eq (side e.start e.end p) (pos 0)) (between e.start.x e.end.x p.X p.W) outer.0 in
    record { on_line = equal_from (side e.start e.end p) (pos 0) inner.0; in_x = inner.1; in_y = outer.1 }

-- two numbers in order stay so where a denominator above 0 cancels
pub ordered : (a b w : ℤ) → pos 0 <ℤ w → (a *ℤ w) ≤ℤ (b *ℤ w) → pos 0 ≤ℤ (b -ℤ a)
ordered a b w hw h = cancel_nonnegative w (b -ℤ a) hw (apart (a *ℤ w) (b *ℤ w) (w *ℤ (b -ℤ a)) (solve (a ∷ b ∷ w ∷ []) (var 1 ⊗ var 2 ⊖ var 0 ⊗ var 2) (var 2 ⊗ (var 1 ⊖ var 0)) tt) h)
  where
    apart : (s t r : ℤ) → t -ℤ s ≡ r → s ≤ℤ t → pos 0 ≤ℤ r
    apart s t r e h = omega (arith, ints)

-- both distances within the range have the sign of the range
pub products : (a b x w : ℤ) → pos 0 <ℤ w → between a b x w ≡ true → (pos 0 ≤ℤ ((b -ℤ a) *ℤ (x -ℤ a *ℤ w))) × (pos 0 ≤ℤ ((b -ℤ a) *ℤ (b *ℤ w -ℤ x)))
products a b x w hw h = go (between_cases (a *ℤ w) (b *ℤ w) x h)
  where
    apart_back : (s t : ℤ) → s ≤ℤ t → (s -ℤ t) ≤ℤ pos 0
    apart_back s t h = omega (arith, ints)

    turned : (s t : ℤ) → pos 0 ≤ℤ (s -ℤ t) → (t -ℤ s) ≤ℤ pos 0
    turned s t h = omega (arith, ints)

    go : (((a *ℤ w) ≤ℤ x) × (x ≤ℤ (b *ℤ w))) ⊎ (((b *ℤ w) ≤ℤ x) × (x ≤ℤ (a *ℤ w))) → (pos 0 ≤ℤ ((b -ℤ a) *ℤ (x -ℤ a *ℤ w))) × (pos 0 ≤ℤ ((b -ℤ a) *ℤ (b *ℤ w -ℤ x)))
    go (inl k) = let d : pos 0 ≤ℤ (b -ℤ a) = ordered a b w hw (at_most_at_most (a *ℤ w) x (b *ℤ w) k.0 k.1) in
        (plus_plus (b -ℤ a) (x -ℤ a *ℤ w) d (gap_weak (a *ℤ w) x k.0), plus_plus (b -ℤ a) (b *ℤ w -ℤ x) d (gap_weak x (b *ℤ w) k.1))
    go (inr k) = let d : (b -ℤ a) ≤ℤ pos 0 = turned a b (ordered b a w hw (at_most_at_most (b *ℤ w) x (a *ℤ w) k.0 k.1)) in
        (minus_minus (b -ℤ a) (x -ℤ a *ℤ w) d (apart_back x (a *ℤ w) k.1), minus_minus (b -ℤ a) (b *ℤ w -ℤ x) d (apart_back (b *ℤ w) x k.0))

-- the weight of the edge's end, and what is left for its start
pub weight_low : (e : Edge) (p : Point) → IsPoint p → OnParts e p → pos 0 ≤ℤ weight e.start e.end p
weight_low e p hp o = sum_weak _ _ ((products e.start.x e.end.x p.X p.W hp o.in_x).0) ((products e.start.y e.end.y p.Y p.W hp o.in_y).0)

-- what is left for the start is the distances to the end, each times the range of its coordinate
rest_is : (a b : Position) (p : Point) → square a b *ℤ p.W -ℤ weight a b p ≡ (b.x -ℤ a.x) *ℤ (b.x *ℤ p.W -ℤ p.X) +ℤ (b.y -ℤ a.y) *ℤ (b.y *ℤ p.W -ℤ p.Y)
rest_is a b p = solve (a.x ∷ a.y ∷ b.x ∷ b.y ∷ p.X ∷ p.Y ∷ p.W ∷ []) (square' ⊗ var 6 ⊖ weight') ((var 2 ⊖ var 0) ⊗ (var 2 ⊗ var 6 ⊖ var 4) ⊕ (var 3 ⊖ var 1) ⊗ (var 3 ⊗ var 6 ⊖ var 5)) tt

-- so it is at least 0 where the point is on the edge
pub weight_high : (e : Edge) (p : Point) → IsPoint p → OnParts e p → pos 0 ≤ℤ (square e.start e.end *ℤ p.W -ℤ weight e.start e.end p)
weight_high e p hp o = sum _ _ _ (rest_is e.start e.end p) ((products e.start.x e.end.x p.X p.W hp o.in_x).1) ((products e.start.y e.end.y p.Y p.W hp o.in_y).1)
  where
    sum : (s t r : ℤ) → r ≡ s +ℤ t → pos 0 ≤ℤ s → pos 0 ≤ℤ t → pos 0 ≤ℤ r
    sum s t r e h k = omega (arith, ints)

-- between two equal numbers there is no other
single : (a b x w : ℤ) → between a b x w ≡ true → b -ℤ a ≡ pos 0 → pos 1 *ℤ x ≡ w *ℤ a +ℤ pos 0 *ℤ b
single a b x w h e = solve (x ∷ []) (lit (pos 1) ⊗ var 0) (var 0) tt ∙ go (between_cases (a *ℤ w) (b *ℤ w) x h) ∙ solve (a ∷ b ∷ w ∷ []) (var 0 ⊗ var 2) (var 2 ⊗ var 0 ⊕ lit (pos 0) ⊗ var 1) tt
  where
    squeeze : (s t r : ℤ) → s ≡ t → s ≤ℤ r → r ≤ℤ t → r ≡ s
    squeeze s t r e h k = omega (arith, ints)

    equal : a *ℤ w ≡ b *ℤ w
    equal = ap (λ (z : ℤ). z *ℤ w) (same_from_gap a b e)

    go : (((a *ℤ w) ≤ℤ x) × (x ≤ℤ (b *ℤ w))) ⊎ (((b *ℤ w) ≤ℤ x) × (x ≤ℤ (a *ℤ w))) → x ≡ a *ℤ w
    go (inl k) = squeeze (a *ℤ w) (b *ℤ w) x equal k.0 k.1
    go (inr k) = squeeze (b *ℤ w) (a *ℤ w) x (sym equal) k.0 k.1 ∙ sym equal

-- a point on an edge divides it, with its distances from the ends as weights
pub hull_from_on : (e : Edge) (p : Point) → IsPoint p → on e p ≡ true → OnHull e p
hull_from_on e p hp h = go (is_or_not (e.end.x -ℤ e.start.x)) (is_or_not (e.end.y -ℤ e.start.y))
  where
    rejoined : (x y : ℤ) → x ≡ (x -ℤ y) +ℤ y
    rejoined x y = omega (arith, ints)

    no_weight : (w : ℤ) → pos 1 *ℤ w ≡ w +ℤ pos 0
    no_weight w = omega (arith, ints)

    wide : (e.start ≡ e.end → ⊥) → OnHull e p
    wide f = record {
      k = square e.start e.end;
      m = square e.start e.end *ℤ p.W -ℤ weight e.start e.end p;
      n = weight e.start e.end p;
      from_k = square_positive e.start e.end f;
      from_m = weight_high e p hp (on_parts e p h);
      from_n = weight_low e p hp (on_parts e p h);
      x_is = x_of e.start e.end p ∙ drop_zero ((square e.start e.end *ℤ p.W -ℤ weight e.start e.end p) *ℤ e.start.x +ℤ weight e.start e.end p *ℤ e.end.x) (side e.start e.end p) (e.start.y -ℤ e.end.y) ((on_parts e p h).on_line);
      y_is = y_of e.start e.end p ∙ drop_zero ((square e.start e.end *ℤ p.W -ℤ weight e.start e.end p) *ℤ e.start.y +ℤ weight e.start e.end p *ℤ e.end.y) (side e.start e.end p) (e.end.x -ℤ e.start.x) ((on_parts e p h).on_line);
      w_is = rejoined (square e.start e.end *ℤ p.W) (weight e.start e.end p);
    }

    go : ((e.end.x -ℤ e.start.x ≡ pos 0) ⊎ (e.end.x -ℤ e.start.x ≡ pos 0 → ⊥)) → ((e.end.y -ℤ e.start.y ≡ pos 0) ⊎ (e.end.y -ℤ e.start.y ≡ pos 0 → ⊥)) → OnHull e p
    go (inl s) (inl t) = record {
      k = pos 1;
      m = p.W;
      n = pos 0;
      from_k = omega (arith, ints);
      from_m = weak_positive p.W hp;
      from_n = omega (arith, ints);
      x_is = single e.start.x e.end.x p.X p.W ((on_parts e p h).in_x) s;
      y_is = single e.start.y e.end.y p.Y p.W ((on_parts e p h).in_y) t;
      w_is = no_weight p.W;
    }
    go (inr s) t = wide (λ q. s (gap_none e.start.x e.end.x (ap (λ (a : Position). a.x) q)))
    go (inl s) (inr t) = wide (λ q. t (gap_none e.start.y e.end.y (ap (λ (a : Position). a.y) q)))
