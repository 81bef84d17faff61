-- The points that two edges with a common end share beside it.
use Rattle.std.proofs.Common.{ℤ, pos, ◌+ℤ◌, ◌-ℤ◌, ◌*ℤ◌, ◌≤ℤ◌, ◌<ℤ◌, ◌≡◌, ◌⊎◌, inl, inr, Bool, true, false, not, ◌||◌, refl, sym, ap, ap₂, ◌∙◌, subst, [], ◌∷◌, arith}
use borrow.Author.Differences.{ints}
use Rattle.std.specs.Ordering.{int_eq}
use Rattle.std.proofs.lemmas.Bool.{true≢false, false_from_ne_true, and_parts, and_from}
use Rattle.geometry_model.specs.Points.{Position, Point, IsPoint, same_point, point_at}
use Rattle.geometry_model.specs.Geometries.{Edge}
use Rattle.geometry_model.specs.Sides.{side, on}
use Rattle.geometry_model.specs.WellKnownText.{same_position}
use Rattle.geometry_model.specs.Validity.{ShareOther}
use Rattle.geometry_model.specs.FirstFaults.{other_on}
use Rattle.basics.proofs.Ring.{solve, var, lit, ◌⊕◌, ◌⊖◌, ◌⊗◌}
use Rattle.basics.proofs.Signs.{at_most_or_less, three_ways, plus_plus, strict_plus_plus, cancel_zero, cancel_positive}
use Rattle.basics.proofs.Tests.{equal_from, equal_yes}
use Rattle.basics.proofs.Orders.{positive_not_zero, weak_positive, one_above, gap_none}
use Rattle.geometry_laws.proofs.Scaling.{same_x, same_y}
use Rattle.geometry_laws.proofs.LineSides.{square, weight, square_positive}
use Rattle.geometry_laws.proofs.Hulls.{OnHull, on_from_hull, on_parts, hull_from_on}
use Rattle.geometry_laws.specs.SharedPointLaws.{OtherPointIsDecided, IsEnd}
use Rattle.geometry_laws.proofs.SharedPoints.{side_sum, weight_sum, swapped, swapped_sum, at_start, at_both, along, x_along, y_along, start_on, end_on, zero_scaled, only_second}

abbrev edge : Position → Position → Edge
edge a b = record { start = a; end = b }

-- a point of an edge is one of the edge turned round
turned : (a b : Position) (p : Point) → OnHull (edge a b) p → OnHull (edge b a) p
turned a b p h = record {
  k = h.k;
  m = h.n;
  n = h.m;
  from_k = h.from_k;
  from_m = h.from_n;
  from_n = h.from_m;
  x_is = swapped h.k p.X h.m h.n a.x b.x h.x_is;
  y_is = swapped h.k p.Y h.m h.n a.y b.y h.y_is;
  w_is = swapped_sum h.k p.W h.m h.n h.w_is;
}

-- the start of an edge is on its line
side_at_start : (a b : Position) → side a b (point_at a) ≡ pos 0
side_at_start a b = solve (a.x ∷ a.y ∷ b.x ∷ b.y ∷ []) ((var 2 ⊖ var 0) ⊗ (var 1 ⊖ var 1 ⊗ lit (pos 1)) ⊖ (var 3 ⊖ var 1) ⊗ (var 0 ⊖ var 0 ⊗ lit (pos 1))) (lit (pos 0)) tt

-- along the edge it has no weight
weight_at_start : (a b : Position) → weight a b (point_at a) ≡ pos 0
weight_at_start a b = solve (a.x ∷ a.y ∷ b.x ∷ b.y ∷ []) ((var 2 ⊖ var 0) ⊗ (var 0 ⊖ var 0 ⊗ lit (pos 1)) ⊕ (var 3 ⊖ var 1) ⊗ (var 1 ⊖ var 1 ⊗ lit (pos 1))) (lit (pos 0)) tt

-- and the end has the whole
weight_at_end : (a b : Position) → weight a b (point_at b) ≡ square a b
weight_at_end a b = solve (a.x ∷ a.y ∷ b.x ∷ b.y ∷ []) ((var 2 ⊖ var 0) ⊗ (var 2 ⊖ var 0 ⊗ lit (pos 1)) ⊕ (var 3 ⊖ var 1) ⊗ (var 3 ⊖ var 1 ⊗ lit (pos 1)))
    ((var 2 ⊖ var 0) ⊗ (var 2 ⊖ var 0) ⊕ (var 3 ⊖ var 1) ⊗ (var 3 ⊖ var 1)) tt

-- b is between a and w, whose weight along a b is past that of b
past : (S t a b w : ℤ) → S *ℤ w ≡ (S *ℤ pos 1 -ℤ t) *ℤ a +ℤ t *ℤ b → (S *ℤ t) *ℤ b ≡ (S *ℤ (t -ℤ S)) *ℤ a +ℤ (S *ℤ S) *ℤ w
past S t a b w e = solve (S ∷ t ∷ a ∷ b ∷ []) ((var 0 ⊗ var 1) ⊗ var 3) ((var 0 ⊗ (var 1 ⊖ var 0)) ⊗ var 2 ⊕ var 0 ⊗ ((var 0 ⊗ lit (pos 1) ⊖ var 1) ⊗ var 2 ⊕ var 1 ⊗ var 3)) tt
    ∙ ap (λ (z : ℤ). (S *ℤ (t -ℤ S)) *ℤ a +ℤ S *ℤ z) (sym e)
    ∙ solve (S ∷ t ∷ a ∷ w ∷ []) ((var 0 ⊗ (var 1 ⊖ var 0)) ⊗ var 2 ⊕ var 0 ⊗ (var 0 ⊗ var 3)) ((var 0 ⊗ (var 1 ⊖ var 0)) ⊗ var 2 ⊕ (var 0 ⊗ var 0) ⊗ var 3) tt

-- the weights of a and w add up
past_sum : (S t : ℤ) → (S *ℤ t) *ℤ pos 1 ≡ S *ℤ (t -ℤ S) +ℤ S *ℤ S
past_sum S t = solve (S ∷ t ∷ []) ((var 0 ⊗ var 1) ⊗ lit (pos 1)) (var 0 ⊗ (var 1 ⊖ var 0) ⊕ var 0 ⊗ var 0) tt

positive : (n : ℤ) → pos 0 ≤ℤ n → (n ≡ pos 0 → ⊥) → pos 0 <ℤ n
positive n h some = go (three_ways (pos 0) n)
  where
    below : (n : ℤ) → pos 0 ≤ℤ n → n <ℤ pos 0 → ⊥
    below n h k = omega (arith, ints)

    go : (pos 0 <ℤ n) ⊎ ((pos 0 ≡ n) ⊎ (n <ℤ pos 0)) → pos 0 <ℤ n
    go (inl k) = k
    go (inr (inl e)) = absurd (some (sym e))
    go (inr (inr k)) = absurd (below n h k)

carry : (s t : ℤ) → s ≡ t → pos 0 <ℤ s → pos 0 <ℤ t
carry s t e h = omega (arith, ints)

difference : (s t : ℤ) → s <ℤ t → pos 0 ≤ℤ (t -ℤ s)
difference s t h = omega (arith, ints)

abbrev Beyond : Position → Position → Position → Type 0
Beyond u v w = ((on (edge u v) (point_at w) ≡ true) × (w ≡ u → ⊥)) ⊎ ((on (edge u w) (point_at v) ≡ true) × (v ≡ u → ⊥))

-- two edges from u that share another point lie on one line and go the same way from u,
-- so the end of the one that isn't longer is on the other
beyond : (u v w : Position) (p : Point) → IsPoint p → OnHull (edge u v) p → OnHull (edge u w) p → (same_point p (point_at u) ≡ true → ⊥) → Beyond u v w
beyond u v w p hp h1 h2 other = go (at_most_or_less (weight u v (point_at w)) (square u v))
  where
    on_first : on (edge u v) p ≡ true
    on_first = on_from_hull (edge u v) p h1

    n_positive : pos 0 <ℤ h1.n
    n_positive = positive h1.n h1.from_n (λ none. other (at_start (edge u v) p h1 none))

    s_positive : pos 0 <ℤ h2.n
    s_positive = positive h2.n h2.from_n (λ none. other (at_start (edge u w) p h2 none))

    apart : u ≡ v → ⊥
    apart q = other (at_both (edge u v) p hp on_first (gap_none u.x v.x (ap (λ (a : Position). a.x) q)) (gap_none u.y v.y (ap (λ (a : Position). a.y) q)))

    wide : pos 0 <ℤ square u v
    wide = square_positive u v apart

    level : side u v (point_at w) ≡ pos 0
    level = cancel_zero h2.n (side u v (point_at w)) s_positive (only_second (side u v (point_at u)) (side u v (point_at w)) h2.m h2.n (side_at_start u v)
        (sym (side_sum u v u w p h2.k h2.m h2.n h2.x_is h2.y_is h2.w_is) ∙ zero_scaled h2.k (side u v p) ((on_parts (edge u v) p on_first).on_line)))

    first_weight : h1.k *ℤ weight u v p ≡ h1.n *ℤ square u v
    first_weight = weight_sum u v u v p h1.k h1.m h1.n h1.x_is h1.y_is h1.w_is
        ∙ ap₂ (λ (s t : ℤ). h1.m *ℤ s +ℤ h1.n *ℤ t) (weight_at_start u v) (weight_at_end u v)
        ∙ solve (h1.m ∷ h1.n ∷ square u v ∷ []) (var 0 ⊗ lit (pos 0) ⊕ var 1 ⊗ var 2) (var 1 ⊗ var 2) tt

    second_weight : h2.k *ℤ weight u v p ≡ h2.n *ℤ weight u v (point_at w)
    second_weight = weight_sum u v u w p h2.k h2.m h2.n h2.x_is h2.y_is h2.w_is
        ∙ ap (λ (s : ℤ). h2.m *ℤ s +ℤ h2.n *ℤ weight u v (point_at w)) (weight_at_start u v)
        ∙ solve (h2.m ∷ h2.n ∷ weight u v (point_at w) ∷ []) (var 0 ⊗ lit (pos 0) ⊕ var 1 ⊗ var 2) (var 1 ⊗ var 2) tt

    weight_of_p : pos 0 <ℤ weight u v p
    weight_of_p = cancel_positive h1.k (weight u v p) (weak_positive h1.k h1.from_k) (carry (h1.n *ℤ square u v) (h1.k *ℤ weight u v p) (sym first_weight) (strict_plus_plus h1.n (square u v) n_positive wide))

    weight_of_w : pos 0 <ℤ weight u v (point_at w)
    weight_of_w = cancel_positive h2.n (weight u v (point_at w)) h2.from_n (carry (h2.k *ℤ weight u v p) (h2.n *ℤ weight u v (point_at w)) second_weight (strict_plus_plus h2.k (weight u v p) h2.from_k weight_of_p))

    go : (weight u v (point_at w) ≤ℤ square u v) ⊎ (square u v <ℤ weight u v (point_at w)) → Beyond u v w
    go (inl h) = inl (
      along (edge u v) w wide level (weak_positive (weight u v (point_at w)) weight_of_w) h,
      λ q. positive_not_zero (weight u v (point_at w)) weight_of_w (ap (λ (a : Position). weight u v (point_at a)) q ∙ weight_at_start u v),
    )
    go (inr h) = inr (
      on_from_hull (edge u w) (point_at v) (record {
        k = square u v *ℤ weight u v (point_at w);
        m = square u v *ℤ (weight u v (point_at w) -ℤ square u v);
        n = square u v *ℤ square u v;
        from_k = strict_plus_plus (square u v) (weight u v (point_at w)) wide weight_of_w;
        from_m = plus_plus (square u v) (weight u v (point_at w) -ℤ square u v) (weak_positive (square u v) wide) (difference (square u v) (weight u v (point_at w)) h);
        from_n = plus_plus (square u v) (square u v) (weak_positive (square u v) wide) (weak_positive (square u v) wide);
        x_is = past (square u v) (weight u v (point_at w)) u.x v.x w.x (x_along (edge u v) w level);
        y_is = past (square u v) (weight u v (point_at w)) u.y v.y w.y (y_along (edge u v) w level);
        w_is = past_sum (square u v) (weight u v (point_at w));
      }),
      λ q. apart (sym q),
    )

-- ---- the tests
-- two positions that pass the test of equality are one
pub same_from : (q c : Position) → same_position q c ≡ true → q ≡ c
same_from q c e = let parts = and_parts (int_eq q.x c.x) (int_eq q.y c.y) e in λ i. record { x = equal_from q.x c.x parts.0 i; y = equal_from q.y c.y parts.1 i }

-- positions that are equal pass it
pub same_self : (q c : Position) → q ≡ c → same_position q c ≡ true
same_self q c e = and_from (int_eq q.x c.x) (int_eq q.y c.y) (equal_yes q.x c.x (ap (λ (p : Position). p.x) e))
    (equal_yes q.y c.y (ap (λ (p : Position). p.y) e))

-- positions that are one point pass it
pub same_yes : (q c : Position) → same_point (point_at q) (point_at c) ≡ true → same_position q c ≡ true
same_yes q c e = and_from (int_eq q.x c.x) (int_eq q.y c.y) (equal_yes q.x c.x (drop q.x c.x (same_x (point_at q) (point_at c) e))) (equal_yes q.y c.y (drop q.y c.y (same_y (point_at q) (point_at c) e)))
  where
    drop : (s t : ℤ) → s *ℤ pos 1 ≡ t *ℤ pos 1 → s ≡ t
    drop s t e = omega (arith, ints)

-- an end on the edge passes where it isn't the common one
other_yes : (common : Position) (e : Edge) (q : Position) → on e (point_at q) ≡ true → (q ≡ common → ⊥) → other_on common e q ≡ true
other_yes common e q h other = and_from (on e (point_at q)) (not (same_position q common)) h (ap not (false_from_ne_true (same_position q common) (λ k. other (same_from q common k))))

-- and one that passes is on the edge, as a point other than the common one
other_from : (common : Position) (e : Edge) (q : Position) → other_on common e q ≡ true → (on e (point_at q) ≡ true) × (same_point (point_at q) (point_at common) ≡ false)
other_from common e q h = let parts = and_parts (on e (point_at q)) (not (same_position q common)) h in
    (parts.0, false_from_ne_true (same_point (point_at q) (point_at common)) (λ k. true≢false (sym parts.1 ∙ ap not (same_yes q common k))))

four_true : (p q r s : Bool) → ((p ≡ true) ⊎ (q ≡ true) ⊎ (r ≡ true) ⊎ (s ≡ true)) → p || q || r || s ≡ true
four_true true q r s h = refl
four_true false true r s h = refl
four_true false false true s h = refl
four_true false false false true h = refl
four_true false false false false (inl e) = e
four_true false false false false (inr (inl e)) = e
four_true false false false false (inr (inr (inl e))) = e
four_true false false false false (inr (inr (inr e))) = e

four_from : (p q r s : Bool) → p || q || r || s ≡ true → (p ≡ true) ⊎ (q ≡ true) ⊎ (r ≡ true) ⊎ (s ≡ true)
four_from true q r s h = inl refl
four_from false true r s h = inr (inl refl)
four_from false false true s h = inr (inr (inl refl))
four_from false false false s h = inr (inr (inr h))

-- the edge from the common end to the other one
record From (u : Position) (e : Edge) : Type 0 where
  to : Position
  hull : (p : Point) → OnHull e p → OnHull (edge u to) p
  back : (q : Position) → on (edge u to) (point_at q) ≡ true → on e (point_at q) ≡ true
  is_end : (e.start ≡ to) ⊎ (e.end ≡ to)

-- an edge with u as an end is the edge from u to its other end, as it is written or turned round
from : (u : Position) (e : Edge) → IsEnd u e → From u e
from u e (inl q) = record {
  to = e.end;
  hull = λ p h. subst (λ (a : Position). OnHull (edge a e.end) p) q h;
  back = λ r h. subst (λ (a : Position). on (edge a e.end) (point_at r) ≡ true) (sym q) h;
  is_end = inr refl;
}
from u e (inr q) = record {
  to = e.start;
  hull = λ p h. turned e.start u p (subst (λ (a : Position). OnHull (edge e.start a) p) q h);
  back = λ r h. subst (λ (a : Position). on (edge e.start a) (point_at r) ≡ true) (sym q)
      (on_from_hull (edge e.start u) (point_at r) (turned u e.start (point_at r) (hull_from_on (edge u e.start) (point_at r) one_above h)));
  is_end = inl refl;
}

abbrev Four : Position → Edge → Edge → Type 0
Four common e f = (other_on common e f.start ≡ true) ⊎ (other_on common e f.end ≡ true) ⊎ (other_on common f e.start ≡ true) ⊎ (other_on common f e.end ≡ true)

-- the other end of f is its start or its end
first_two : (common : Position) (e f : Edge) (w : Position) → (f.start ≡ w) ⊎ (f.end ≡ w) → other_on common e w ≡ true → Four common e f
first_two common e f w (inl q) h = inl (ap (other_on common e) q ∙ h)
first_two common e f w (inr q) h = inr (inl (ap (other_on common e) q ∙ h))

-- and that of e likewise
last_two : (common : Position) (e f : Edge) (v : Position) → (e.start ≡ v) ⊎ (e.end ≡ v) → other_on common f v ≡ true → Four common e f
last_two common e f v (inl q) h = inr (inr (inl (ap (other_on common f) q ∙ h)))
last_two common e f v (inr q) h = inr (inr (inr (ap (other_on common f) q ∙ h)))

-- so of two edges that share another point one has an end, other than the common one, on the other edge
one_of_four : (common : Position) (e f : Edge) → From common e → From common f → ShareOther common e f → Four common e f
one_of_four common e f x y s = go (beyond common x.to y.to s.at s.is_point (x.hull s.at (hull_from_on e s.at s.is_point s.on_first)) (y.hull s.at (hull_from_on f s.at s.is_point s.on_second))
    (λ k. true≢false (sym k ∙ s.other)))
  where
    go : Beyond common x.to y.to → Four common e f
    go (inl h) = first_two common e f y.to y.is_end (other_yes common e y.to (x.back y.to h.0) h.1)
    go (inr h) = last_two common e f x.to x.is_end (other_yes common f x.to (y.back x.to h.0) h.1)

-- and such an end is a point that both share
other_of : (common : Position) (e f : Edge) → Four common e f → ShareOther common e f
other_of common e f (inl h) = let k = other_from common e f.start h in record { at = point_at f.start; is_point = one_above; on_first = k.0; on_second = start_on f; other = k.1 }
other_of common e f (inr (inl h)) = let k = other_from common e f.end h in record { at = point_at f.end; is_point = one_above; on_first = k.0; on_second = end_on f; other = k.1 }
other_of common e f (inr (inr (inl h))) = let k = other_from common f e.start h in record { at = point_at e.start; is_point = one_above; on_first = start_on e; on_second = k.0; other = k.1 }
other_of common e f (inr (inr (inr h))) = let k = other_from common f e.end h in record { at = point_at e.end; is_point = one_above; on_first = end_on e; on_second = k.0; other = k.1 }

-- the four tests of ends say exactly whether two edges share a point beside their common end
pub other_point_is_decided : OtherPointIsDecided
other_point_is_decided common e f is_first is_second = (
  (λ h. other_of common e f (four_from (other_on common e f.start) (other_on common e f.end) (other_on common f e.start) (other_on common f e.end) h)),
  (λ s. four_true (other_on common e f.start) (other_on common e f.end) (other_on common f e.start) (other_on common f e.end) (one_of_four common e f (from common e is_first) (from common f is_second) s)),
)
