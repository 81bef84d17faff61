-- Edges whose lines cross: the point between two positions on either side of a line.
use Rattle.std.proofs.Common.{◌≡◌, ◌⊎◌, inl, inr, Bool, true, false, ◌&&◌, if◌then◌else◌, sym, ap, ap₂, ◌∙◌, arith, [], ◌∷◌, ℤ, pos, ◌+ℤ◌, ◌-ℤ◌, ◌*ℤ◌, ◌≤ℤ◌, ◌<ℤ◌, int_le}
use borrow.Author.Differences.{ints}
use Rattle.std.specs.Cmp.{both_ways}
use Rattle.std.specs.declared.cmp.Ordering.TheVariants.{Equal, Greater}
use Rattle.std.specs.Ordering.{int_cmp}
use Rattle.std.proofs.lemmas.Bool.{and_parts, and_from}
use Rattle.basics.proofs.Ring.{solve, var, lit, ◌⊕◌, ◌⊖◌, ◌⊗◌}
use Rattle.basics.proofs.Signs.{at_most_from, at_most_yes, at_most_or_less}
use Rattle.basics.proofs.Tests.{cmp_equal, cmp_greater}
use Rattle.basics.proofs.Orders.{positive_same, weak_turned}
use Rattle.geometry_model.specs.Points.{Position, Point, IsPoint, point_at, same_point}
use Rattle.geometry_model.specs.Geometries.{Edge}
use Rattle.geometry_model.specs.Sides.{side, on, on_one_line}
use Rattle.geometry_model.specs.Dimensions.{weighted}
use Rattle.geometry_model.proofs.DimensionFacts.{is_false}
use Rattle.geometry_laws.proofs.Scaling.{same_from}
use Rattle.geometry_laws.proofs.PointOrder.{same_transitive}
use Rattle.geometry_laws.proofs.Respect.{on_respects, side_respects}
use Rattle.geometry_laws.proofs.LineSides.{side_turned}
use Rattle.geometry_laws.proofs.Hulls.{on_from_hull, hull_from_on, on_parts}
use Rattle.geometry_laws.proofs.Lines.{value_weighted, value_is_side, line_side, sum_positive, weighted_is_point}
use Rattle.geometry_laws.proofs.RingParity.{position_is_point}
use Rattle.geometry_laws.proofs.Cuts.{Weighs, weighs, OneLine, one_line}
use Rattle.matrix_laws.proofs.EdgeMeeting.{SharesPoint, shares_point}
use Rattle.noding.specs.Meetings.{on_both, IsMeeting}
use Rattle.noding.specs.declared.answers.Meet.TheVariants.{Apart, At}

-- the edge between two positions
abbrev pub edge : Position → Position → Edge
edge c d = record { start = c; end = d }

-- the point that weighs c by m and d by n
abbrev pub point_of : Position → ℤ → Position → ℤ → Point
point_of c m d n = record { X = m *ℤ c.x +ℤ n *ℤ d.x; Y = m *ℤ c.y +ℤ n *ℤ d.y; W = m +ℤ n }

-- it lies on the edge
point_is_on : (c d : Position) (m n : ℤ) → pos 0 ≤ℤ m → pos 0 ≤ℤ n → on (edge c d) (point_of c m d n) ≡ true
point_is_on c d m n hm hn = on_from_hull (edge c d) (point_of c m d n) (record {
  k = pos 1;
  m = m;
  n = n;
  from_k = omega (arith, ints);
  from_m = hm;
  from_n = hn;
  x_is = one (m *ℤ c.x +ℤ n *ℤ d.x);
  y_is = one (m *ℤ c.y +ℤ n *ℤ d.y);
  w_is = one (m +ℤ n);
})
  where
    one : (z : ℤ) → pos 1 *ℤ z ≡ z
    one z = omega (arith, ints)

-- ---- two sides that differ
-- two positions whose sides differ aren't both on the line
pub not_one_line : (e : Edge) (c d : Position) → side e.start e.end (point_at c) <ℤ side e.start e.end (point_at d) → on_one_line e (edge c d) ≡ false
not_one_line e c d h = is_false (on_one_line e (edge c d)) (λ k. both (one_line e (edge c d) k))
  where
    clash : (s t : ℤ) → s <ℤ t → s ≡ pos 0 → t ≡ pos 0 → ⊥
    clash s t h e f = omega (arith, ints)

    both : OneLine e (edge c d) → ⊥
    both o = clash (side e.start e.end (point_at c)) (side e.start e.end (point_at d)) h o.start o.end

turned_coordinate : (s t a b x w : ℤ) → (s *ℤ b -ℤ t *ℤ a) *ℤ w ≡ x *ℤ (s -ℤ t) → (t *ℤ a +ℤ (pos 0 -ℤ s) *ℤ b) *ℤ w ≡ x *ℤ (t +ℤ (pos 0 -ℤ s))
turned_coordinate s t a b x w e = solve (s ∷ t ∷ a ∷ b ∷ w ∷ []) ((var 1 ⊗ var 2 ⊕ (lit (pos 0) ⊖ var 0) ⊗ var 3) ⊗ var 4) (lit (pos 0) ⊖ (var 0 ⊗ var 3 ⊖ var 1 ⊗ var 2) ⊗ var 4) tt
    ∙ ap (λ (z : ℤ). pos 0 -ℤ z) e
    ∙ solve (s ∷ t ∷ x ∷ []) (lit (pos 0) ⊖ var 2 ⊗ (var 0 ⊖ var 1)) (var 2 ⊗ (var 1 ⊕ (lit (pos 0) ⊖ var 0))) tt

-- the only point that both edges can hold
only_point : (e : Edge) (c d : Position) (r : Point) → IsPoint r → side e.start e.end (point_at c) <ℤ side e.start e.end (point_at d) → on e r ≡ true → on (edge c d) r ≡ true
    → same_point (point_of c (side e.start e.end (point_at d)) d (pos 0 -ℤ side e.start e.end (point_at c))) r ≡ true
only_point e c d r hr h f g =
    let shared : SharesPoint e (edge c d) r = shares_point e (edge c d) r hr (not_one_line e c d h) f g in
    let s : ℤ = side e.start e.end (point_at c) in
    let t : ℤ = side e.start e.end (point_at d) in
    same_from (point_of c t d (pos 0 -ℤ s)) r (turned_coordinate s t c.x d.x r.X r.W shared.x_is) (turned_coordinate s t c.y d.y r.Y r.W shared.y_is)

-- ---- both positions on one side of the line
-- between two positions left of a line no point is on it, since sides are weighed like the points
left_of_line : (a b c d : Position) (r : Point) → IsPoint r → pos 0 <ℤ side a b (point_at c) → pos 0 <ℤ side a b (point_at d) → side a b r ≡ pos 0 → on (edge c d) r ≡ true → ⊥
left_of_line a b c d r hr hc hd z g = go (weighs (edge c d) r hr (hull_from_on (edge c d) r hr g))
  where
    go : Weighs (edge c d) r → ⊥
    go w =
        let p : Point = weighted w.m (point_at c) w.n (point_at d) in
        let is_sum : side a b p ≡ pos w.m *ℤ side a b (point_at c) +ℤ pos w.n *ℤ side a b (point_at d) = sym (value_is_side a b p) ∙ value_weighted (line_side a b) w.m (point_at c) w.n (point_at d)
        ∙ ap₂ (λ (y z : ℤ). pos w.m *ℤ y +ℤ pos w.n *ℤ z) (value_is_side a b (point_at c)) (value_is_side a b (point_at d)) in
        let above : pos 0 <ℤ side a b p = positive_same (side a b p) _ is_sum (sum_positive w.m w.n (side a b (point_at c)) (side a b (point_at d)) w.some hc hd) in
        let alike : int_cmp (side a b p) (pos 0) ≡ int_cmp (side a b r) (pos 0) = side_respects a b p r (weighted_is_point w.m (point_at c) w.n (point_at d) (position_is_point c) (position_is_point d) w.some) hr w.same in
        let clash : Greater ≡ Equal = sym (cmp_greater (side a b p) (pos 0) above) ∙ alike ∙ cmp_equal (side a b r) (pos 0) z in
        absurd (cc)

-- two numbers that don't lie on both sides of 0 are both above or both below
not_straddled : (s t : ℤ) → s <ℤ t → (int_le s (pos 0) && int_le (pos 0) t) ≡ false → ((pos 0 <ℤ s) × (pos 0 <ℤ t)) ⊎ ((s <ℤ pos 0) × (t <ℤ pos 0))
not_straddled s t h e = go (at_most_or_less s (pos 0)) (at_most_or_less (pos 0) t)
  where
    past : (s t : ℤ) → s <ℤ t → pos 0 <ℤ s → pos 0 <ℤ t
    past s t h k = omega (arith, ints)

    short : (s t : ℤ) → s <ℤ t → t <ℤ pos 0 → s <ℤ pos 0
    short s t h k = omega (arith, ints)

    go : (s ≤ℤ pos 0) ⊎ (pos 0 <ℤ s) → (pos 0 ≤ℤ t) ⊎ (t <ℤ pos 0) → ((pos 0 <ℤ s) × (pos 0 <ℤ t)) ⊎ ((s <ℤ pos 0) × (t <ℤ pos 0))
    go (inr k) l = inl (k, past s t h k)
    go (inl k) (inr l) = inr (short s t h l, l)
    go (inl k) (inl l) = absurd (let f : true ≡ false = sym (and_from _ _ (at_most_yes s (pos 0) k) (at_most_yes (pos 0) t l)) ∙ e in cc)

-- with both positions on one side of its line the edge has nothing in common with the edge between them
pub apart_beside : (e : Edge) (c d : Position) → side e.start e.end (point_at c) <ℤ side e.start e.end (point_at d)
    → (int_le (side e.start e.end (point_at c)) (pos 0) && int_le (pos 0) (side e.start e.end (point_at d))) ≡ false → IsMeeting e (edge c d) Apart
apart_beside e c d h f p hp = is_false (on_both e (edge c d) p) (λ k. off (and_parts (on e p) (on (edge c d) p) k))
  where
    turned : (x y : ℤ) → x ≡ pos 0 -ℤ y → y <ℤ pos 0 → pos 0 <ℤ x
    turned x y e h = omega (arith, ints)

    turned_zero : (x y : ℤ) → x ≡ pos 0 -ℤ y → y ≡ pos 0 → x ≡ pos 0
    turned_zero x y e h = omega (arith, ints)

    off : (on e p ≡ true) × (on (edge c d) p ≡ true) → ⊥
    off k = go (not_straddled (side e.start e.end (point_at c)) (side e.start e.end (point_at d)) h f)
      where
        go : ((pos 0 <ℤ side e.start e.end (point_at c)) × (pos 0 <ℤ side e.start e.end (point_at d))) ⊎ ((side e.start e.end (point_at c) <ℤ pos 0) × (side e.start e.end (point_at d) <ℤ pos 0)) → ⊥
        go (inl l) = left_of_line e.start e.end c d p hp l.0 l.1 ((on_parts e p k.0).on_line) k.1
        go (inr l) = left_of_line e.end e.start c d p hp (turned _ _ (side_turned e.start e.end (point_at c)) l.0) (turned _ _ (side_turned e.start e.end (point_at d)) l.1)
            (turned_zero _ _ (side_turned e.start e.end p) ((on_parts e p k.0).on_line)) k.1

-- ---- one position on each side, or on the line
-- a point weighs two positions, one on each side of the edge's line or on it, by the other's side
pub record Straddles (e : Edge) (c d : Position) (p : Point) : Type 0 where
  pub is_point : IsPoint p
  pub differ : side e.start e.end (point_at c) <ℤ side e.start e.end (point_at d)
  pub lower : side e.start e.end (point_at c) ≤ℤ pos 0
  pub upper : pos 0 ≤ℤ side e.start e.end (point_at d)
  pub same : same_point p (point_of c (side e.start e.end (point_at d)) d (pos 0 -ℤ side e.start e.end (point_at c))) ≡ true

-- the weights aren't both 0, so they make a point
pub made_is_point : (s t : ℤ) → s <ℤ t → pos 0 <ℤ (t +ℤ (pos 0 -ℤ s))
made_is_point s t h = omega (arith, ints)

-- the weighed point lies between the two positions
on_second : (e : Edge) (c d : Position) (p : Point) → Straddles e c d p → on (edge c d) p ≡ true
on_second e c d p h = on_respects (edge c d) p _ h.is_point (made_is_point _ _ h.differ) h.same ∙ point_is_on c d _ _ h.upper (weak_turned _ h.lower)

-- whatever both edges hold is that point, since only there the side is 0
shared_is : (e : Edge) (c d : Position) (p q : Point) → Straddles e c d p → IsPoint q → on_both e (edge c d) q ≡ true → same_point p q ≡ true
shared_is e c d p q h hq k =
    let both : (on e q ≡ true) × (on (edge c d) q ≡ true) = and_parts (on e q) (on (edge c d) q) k in
    same_transitive p _ q (made_is_point _ _ h.differ) h.same (only_point e c d q hq h.differ both.0 both.1)

-- where it lies on the first edge the edges have it alone in common
held_at : (e : Edge) (c d : Position) (p : Point) → Straddles e c d p → on e p ≡ true → (q : Point) → IsPoint q → on_both e (edge c d) q ≡ same_point p q
held_at e c d p h f q hq = both_ways (on_both e (edge c d) q) (same_point p q) (λ k. shared_is e c d p q h hq k)
    (λ k. and_from (on e q) (on (edge c d) q) (sym (on_respects e p q h.is_point hq k) ∙ f) (sym (on_respects (edge c d) p q h.is_point hq k) ∙ on_second e c d p h))

-- where it doesn't they have nothing in common
held_nowhere : (e : Edge) (c d : Position) (p : Point) → Straddles e c d p → on e p ≡ false → (q : Point) → IsPoint q → on_both e (edge c d) q ≡ false
held_nowhere e c d p h f q hq = is_false (on_both e (edge c d) q) (λ k. off k)
  where
    off : on_both e (edge c d) q ≡ true → ⊥
    off k = let clash : false ≡ true = sym f ∙ on_respects e p q h.is_point hq (shared_is e c d p q h hq k) ∙ (and_parts (on e q) (on (edge c d) q) k).0 in cc

-- so the test of that one point on the first edge decides the meeting
pub crossing_is : (e : Edge) (c d : Position) (p : Point) → Straddles e c d p → (t : Bool) → on e p ≡ t → IsMeeting e (edge c d) (if t then At p else Apart)
crossing_is e c d p h true f = held_at e c d p h f
crossing_is e c d p h false f = held_nowhere e c d p h f

-- numbers that pass the test lie on both sides of 0, or one at 0
pub straddling : (s t : ℤ) → (int_le s (pos 0) && int_le (pos 0) t) ≡ true → (s ≤ℤ pos 0) × (pos 0 ≤ℤ t)
straddling s t e = let both : (int_le s (pos 0) ≡ true) × (int_le (pos 0) t ≡ true) = and_parts (int_le s (pos 0)) (int_le (pos 0) t) e in (at_most_from s (pos 0) both.0, at_most_from (pos 0) t both.1)
