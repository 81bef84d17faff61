-- Strictly between two points of an edge: sums stay there, and an edge that holds all of it holds its ends.
use Rattle.std.proofs.Common.{ℕ, ◌+◌, ◌<◌, pos, ◌≡◌, true, false, refl, sym, ap, subst, ◌∙◌}
use Rattle.std.specs.declared.cmp.Ordering.{Ordering}
use Rattle.std.specs.declared.cmp.Ordering.TheVariants.{Less, Equal, Greater}
use Rattle.basics.proofs.Bools.{by_contraries, not_both}
use Rattle.geometry_model.specs.Points.{Position, Point, IsPoint, point_at, compare, same_point, mediant, least_form}
use Rattle.geometry_model.specs.Geometries.{Edge}
use Rattle.geometry_model.specs.Sides.{side, on}
use Rattle.geometry_model.specs.Dimensions.{weighted}
use Rattle.geometry_model.specs.Locations.{is_at}
use Rattle.geometry_model.proofs.LeastFormFacts.{least_is_same, least_is_point}
use Rattle.geometry_laws.specs.PointLaws.{reversed}
use Rattle.geometry_laws.proofs.PointOrder.{same_symmetric, same_transitive, compare_reversed, equal_is_same, less_transitive, mediant_between}
use Rattle.geometry_laws.proofs.Respect.{compare_respects, on_respects}
use Rattle.geometry_laws.proofs.Hulls.{on_from_hull, hull_from_on, on_parts}
use Rattle.geometry_laws.proofs.RingParity.{position_is_point}
use Rattle.geometry_laws.proofs.Lines.{weighted_is_point}
use Rattle.geometry_laws.proofs.Triangles.{dot, dot_is_at}
use Rattle.geometry_laws.proofs.LineOrder.{after_sum, before_sum, sum_between, on_sum, weighted_is_sum, area_on_line}
use Rattle.geometry_laws.proofs.Cuts.{turn_less, not_less_self, not_after_both, not_before_both}
use Rattle.matrix_laws.specs.Gaps.{IsBetween}
use Rattle.matrix_laws.proofs.Pieces.{mediant_is_sum}

-- two points of an edge, the lesser first
pub record Span (e : Edge) (p q : Point) : Type 0 where
  pub lesser : IsPoint p
  pub greater : IsPoint q
  pub lesser_on : on e p ≡ true
  pub greater_on : on e q ≡ true
  pub in_order : compare p q ≡ Less

-- such an edge has two different ends
pub wide : (e : Edge) (p q : Point) → Span e p q → e.start ≡ e.end → ⊥
wide e p q s k = not_less_self p q (same_transitive p (point_at e.start) q (position_is_point e.start)
    (same_symmetric p (point_at e.start) ∙ dot_is_at e.start p s.lesser (subst (λ (g : Edge). on g p ≡ true) is_dot s.lesser_on))
    (dot_is_at e.start q s.greater (subst (λ (g : Edge). on g q ≡ true) is_dot s.greater_on))) s.in_order
  where
    is_dot : e ≡ dot e.start
    is_dot = λ i. record { start = e.start; end = sym k i }

-- what an edge holds is on its line
pub on_line : (e : Edge) (x : Point) → on e x ≡ true → side e.start e.end x ≡ pos 0
on_line e x h = (on_parts e x h).on_line

-- what the edge's line holds between two of its points, the edge holds
pub on_within : (e : Edge) (p q : Point) → Span e p q → (x : Point) → IsPoint x → side e.start e.end x ≡ pos 0 → compare p x ≡ Less → compare x q ≡ Less → on e x ≡ true
on_within e p q s x hx l f g = on_from_hull e x (on_sum e p q x (hull_from_on e p s.lesser s.lesser_on) (hull_from_on e q s.greater s.greater_on)
    (sum_between p q x s.lesser s.greater hx (area_on_line e.start e.end p q x (wide e p q s) (on_line e p s.lesser_on) (on_line e q s.greater_on) l) f g s.in_order))

-- ---- sums
-- an edge is straight, so it holds the sums of any two of its points
pub on_weighted : (e : Edge) (x y : Point) (m n : ℕ) → IsPoint x → IsPoint y → on e x ≡ true → on e y ≡ true → on e (weighted m x n y) ≡ true
on_weighted e x y m n hx hy k l = on_from_hull e (weighted m x n y) (on_sum e x y (weighted m x n y) (hull_from_on e x hx k) (hull_from_on e y hy l) (weighted_is_sum m x n y))

-- the sums of two points between lie between
pub between_sum : (e : Edge) (p q x y : Point) (m n : ℕ) → 0 < m + n → IsBetween e p q x → IsBetween e p q y → IsBetween e p q (weighted m x n y)
between_sum e p q x y m n k i j = record {
  is_point = weighted_is_point m x n y i.is_point j.is_point k;
  is_on = on_weighted e x y m n i.is_point j.is_point i.is_on j.is_on;
  after = after_sum p m x n y k i.after j.after;
  before = before_sum q m x n y k i.before j.before;
}

-- ---- the mediant
-- an edge holds the mediant of two of its points
pub on_mediant : (e : Edge) (p q : Point) → IsPoint p → IsPoint q → on e p ≡ true → on e q ≡ true → on e (mediant p q) ≡ true
on_mediant e p q hp hq k l = on_from_hull e (mediant p q) (on_sum e p q (mediant p q) (hull_from_on e p hp k) (hull_from_on e q hq l) (mediant_is_sum p q))

-- and that lies strictly between them
pub mediant_is_between : (e : Edge) (p q : Point) → Span e p q → IsBetween e p q (mediant p q)
mediant_is_between e p q s = go (mediant_between p q s.lesser s.greater s.in_order)
  where
    go : IsPoint (mediant p q) × (compare p (mediant p q) ≡ Less) × (compare (mediant p q) q ≡ Less) → IsBetween e p q (mediant p q)
    go h = record { is_point = h.0; is_on = on_mediant e p q s.lesser s.greater s.lesser_on s.greater_on; after = h.1; before = h.2 }

-- what lies between lies there in whatever triple
pub compare_respects_last : (p x y : Point) → IsPoint x → IsPoint y → same_point x y ≡ true → compare p x ≡ compare p y
compare_respects_last p x y hx hy e = compare_reversed x p ∙ ap reversed (compare_respects p x y hx hy e) ∙ sym (compare_reversed y p)

-- so a point between is between in each of its triples
pub between_respects : (e : Edge) (p q x y : Point) → IsPoint y → same_point y x ≡ true → IsBetween e p q x → IsBetween e p q y
between_respects e p q x y hy s i = record {
  is_point = hy;
  is_on = on_respects e y x hy i.is_point s ∙ i.is_on;
  after = compare_respects_last p y x hy i.is_point s ∙ i.after;
  before = compare_respects q y x hy i.is_point s ∙ i.before;
}

-- so the mediant in least form lies between as well
pub least_mediant_between : (e : Edge) (p q : Point) → Span e p q → IsBetween e p q (least_form (mediant p q))
least_mediant_between e p q s = go (mediant_is_between e p q s)
  where
    go : IsBetween e p q (mediant p q) → IsBetween e p q (least_form (mediant p q))
    go i = between_respects e p q (mediant p q) (least_form (mediant p q)) (least_is_point (mediant p q) i.is_point) (least_is_same (mediant p q)) i

-- ---- a point between is no end of the edge
-- points of the edge come before it and after it, and none comes before an edge's lesser end or after its greater
pub no_end_between : (e : Edge) (p q x : Point) → Span e p q → IsBetween e p q x → (is_at x e.start ≡ false) × (is_at x e.end ≡ false)
no_end_between e p q x s i = (by_contraries (is_at x e.start) false (λ k. absurd (at_start k)) refl, by_contraries (is_at x e.end) false (λ k. absurd (at_end k)) refl)
  where
    after : (a : Position) → is_at x a ≡ true → compare p (point_at a) ≡ Less
    after a k = compare_respects_last p (point_at a) x (position_is_point a) i.is_point k ∙ i.after

    before : (a : Position) → is_at x a ≡ true → compare (point_at a) q ≡ Less
    before a k = compare_respects q (point_at a) x (position_is_point a) i.is_point k ∙ i.before

    same_before : (a : Position) → compare p (point_at a) ≡ Equal → compare (point_at a) q ≡ Less
    same_before a k = compare_respects q (point_at a) p (position_is_point a) s.lesser (same_symmetric (point_at a) p ∙ (equal_is_same p (point_at a)).0 k) ∙ s.in_order

    at_start : is_at x e.start ≡ true → ⊥
    at_start k = go (compare p (point_at e.end)) refl
      where
        go : (o : Ordering) → compare p (point_at e.end) ≡ o → ⊥
        go Less l = not_both (on e p) s.lesser_on (not_before_both e p s.lesser (after e.start k) l)
        go Equal l = not_both (on e q) s.greater_on (not_after_both e q s.greater (before e.start k) (same_before e.end l))
        go Greater l = not_both (on e q) s.greater_on (not_after_both e q s.greater (before e.start k) (less_transitive (point_at e.end) p q (position_is_point e.end) s.lesser s.greater (turn_less p (point_at e.end) l) s.in_order))

    at_end : is_at x e.end ≡ true → ⊥
    at_end k = go (compare p (point_at e.start)) refl
      where
        go : (o : Ordering) → compare p (point_at e.start) ≡ o → ⊥
        go Less l = not_both (on e p) s.lesser_on (not_before_both e p s.lesser l (after e.end k))
        go Equal l = not_both (on e q) s.greater_on (not_after_both e q s.greater (same_before e.start l) (before e.end k))
        go Greater l = not_both (on e q) s.greater_on (not_after_both e q s.greater (less_transitive (point_at e.start) p q (position_is_point e.start) s.lesser s.greater (turn_less p (point_at e.start) l) s.in_order) (before e.end k))

-- ---- points nearer to an end than given points of the line
-- a point of the edge after its lesser point, before its greater one and before another point of the line
pub record After (e : Edge) (p q a : Point) : Type 0 where
  pub point : Point
  pub between : IsBetween e p q point
  pub nearer : compare point a ≡ Less

-- the mediant of the lesser point and the nearer of the two others is one
pub after_lesser : (e : Edge) (p q a : Point) → Span e p q → IsPoint a → side e.start e.end a ≡ pos 0 → compare p a ≡ Less → After e p q a
after_lesser e p q a s ha l f = go (compare a q) refl
  where
    far : (z : Point) → IsBetween e p q z → compare z a ≡ Less → After e p q a
    far z i k = record { point = z; between = i; nearer = k }

    near : Span e p a → compare a q ≡ Less → After e p q a
    near t g = at (mediant_is_between e p a t)
      where
        at : IsBetween e p a (mediant p a) → After e p q a
        at i = record {
          point = mediant p a;
          between = record { is_point = i.is_point; is_on = i.is_on; after = i.after; before = less_transitive (mediant p a) a q i.is_point ha s.greater i.before g };
          nearer = i.before;
        }

    go : (o : Ordering) → compare a q ≡ o → After e p q a
    go Less g = near (record { lesser = s.lesser; greater = ha; lesser_on = s.lesser_on; greater_on = on_within e p q s a ha l f g; in_order = f }) g
    go Equal g = let i : IsBetween e p q (mediant p q) = mediant_is_between e p q s in far (mediant p q) i (compare_respects_last (mediant p q) a q ha s.greater ((equal_is_same a q).0 g) ∙ i.before)
    go Greater g = let i : IsBetween e p q (mediant p q) = mediant_is_between e p q s in far (mediant p q) i (less_transitive (mediant p q) q a i.is_point s.greater ha i.before (turn_less a q g))

-- a point of the edge before its greater point, after its lesser one and after another point of the line
pub record Before (e : Edge) (p q a : Point) : Type 0 where
  pub point : Point
  pub between : IsBetween e p q point
  pub nearer : compare a point ≡ Less

-- the mediant of the greater point and the nearer of the two others is one
pub before_greater : (e : Edge) (p q a : Point) → Span e p q → IsPoint a → side e.start e.end a ≡ pos 0 → compare a q ≡ Less → Before e p q a
before_greater e p q a s ha l f = go (compare p a) refl
  where
    far : (z : Point) → IsBetween e p q z → compare a z ≡ Less → Before e p q a
    far z i k = record { point = z; between = i; nearer = k }

    near : Span e a q → compare p a ≡ Less → Before e p q a
    near t g = at (mediant_is_between e a q t)
      where
        at : IsBetween e a q (mediant a q) → Before e p q a
        at i = record {
          point = mediant a q;
          between = record { is_point = i.is_point; is_on = i.is_on; after = less_transitive p a (mediant a q) s.lesser ha i.is_point g i.after; before = i.before };
          nearer = i.after;
        }

    go : (o : Ordering) → compare p a ≡ o → Before e p q a
    go Less g = near (record { lesser = ha; greater = s.greater; lesser_on = on_within e p q s a ha l g f; greater_on = s.greater_on; in_order = f }) g
    go Equal g = let i : IsBetween e p q (mediant p q) = mediant_is_between e p q s in far (mediant p q) i (compare_respects (mediant p q) a p ha s.lesser (same_symmetric a p ∙ (equal_is_same p a).0 g) ∙ i.after)
    go Greater g = let i : IsBetween e p q (mediant p q) = mediant_is_between e p q s in far (mediant p q) i (less_transitive a p (mediant p q) ha s.lesser i.is_point (turn_less p a g) i.after)
