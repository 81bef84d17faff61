-- Where a view straight up or straight down ends, just those edges are strictly above that are above the point looked from.
use Rattle.std.proofs.Common.{ℤ, pos, ◌+ℤ◌, ◌*ℤ◌, ◌≤ℤ◌, ◌<ℤ◌, int_lt, int_le, ◌≡◌, ◌⊎◌, inl, inr, Bool, true, false, ◌&&◌, refl, sym, ap, ap₂, ◌∙◌, [], ◌∷◌, arith}
use Rattle.std.proofs.lemmas.Bool.{and_from}
use borrow.Author.Differences.{ints}
use Rattle.geometry_model.specs.Points.{Position, Point, IsPoint, point_at}
use Rattle.geometry_model.specs.Geometries.{Edge, Geometry, edges, listed}
use Rattle.geometry_model.specs.Sides.{on}
use Rattle.geometry_model.specs.Crossings.{spans, side_rightward, strictly_above, at_or_above}
use Rattle.geometry_model.specs.Locations.{is_at, locate}
use Rattle.geometry_model.specs.Labels.{above, below}
use Rattle.basics.proofs.Ring.{solve, var, ◌⊗◌}
use Rattle.basics.proofs.Signs.{strict_plus_plus, plus_plus, cancel_positive, cancel_negative, at_most_or_less, less_yes, less_no, less_from, at_most_yes, at_most_no, zero_times}
use Rattle.basics.proofs.Quotients.{less_scaled}
use Rattle.basics.proofs.Orders.{same_not_less, weak_positive}
use Rattle.basics.proofs.Bools.{not_both, by_contraries}
use Rattle.geometry_laws.specs.PieceLaws.{IsOff}
use Rattle.geometry_laws.specs.CoverLaws.{IsStraightOver, IsLower}
use Rattle.geometry_laws.proofs.Each.{each_map}
use Rattle.geometry_laws.proofs.RingParity.{each_from_all, position_is_point}
use Rattle.geometry_laws.proofs.CoverTheorems.{all_from_each, over_straight}
use Rattle.geometry_laws.proofs.Scaling.{same_x, same_y}
use Rattle.geometry_laws.proofs.Nudge.{breadth, breadth_positive}
use Rattle.geometry_laws.proofs.LineOrder.{up}
use Rattle.geometry_laws.proofs.Locating.{Off, locate_off}
use Rattle.geometry_laws.proofs.SideTriangles.{below_from, above_from}
use Rattle.geometry_laws.proofs.First.{over_point, over_is_point, over_on, over_higher}
use Rattle.geometry_laws.specs.FaceLaws.{IsOnTheWayUp, IsOnTheWayDown, SeesUp, SeesDown}
use Rattle.geometry_laws.proofs.VerticalLines.{straight_through, spans_along, rightward_along, rightward_on, up_positive, lower_from_up}

-- ---- over plain numbers: r w = s v + b u, with denominators v and w above 0
-- where s is at least 0 and b and u are above 0, r is above 0
grows : (r w s v b u : ℤ) → r *ℤ w ≡ s *ℤ v +ℤ b *ℤ u → pos 0 <ℤ w → pos 0 <ℤ v → pos 0 <ℤ b → pos 0 <ℤ u → pos 0 ≤ℤ s → pos 0 <ℤ r
grows r w s v b u e hw hv hb hu hs = cancel_positive w r (weak_positive w hw) (turned (more (r *ℤ w) (s *ℤ v) (b *ℤ u) e (plus_plus s v hs (weak_positive v hv)) (strict_plus_plus b u hb hu)))
  where
    more : (x y z : ℤ) → x ≡ y +ℤ z → pos 0 ≤ℤ y → pos 0 <ℤ z → pos 0 <ℤ x
    more x y z e h k = omega (arith, ints)

    turned : pos 0 <ℤ (r *ℤ w) → pos 0 <ℤ (w *ℤ r)
    turned h = omega (arith, ints, h)

-- where r is 0 and s and b are above 0, u is below 0
falls : (r w s v b u : ℤ) → r *ℤ w ≡ s *ℤ v +ℤ b *ℤ u → r ≡ pos 0 → pos 0 <ℤ v → pos 0 <ℤ b → pos 0 <ℤ s → u <ℤ pos 0
falls r w s v b u e z hv hb hs = cancel_negative b u (weak_positive b hb) (less (r *ℤ w) (s *ℤ v) (b *ℤ u) e (zero_times r w z) (strict_plus_plus s v hs hv))
  where
    less : (x y z : ℤ) → x ≡ y +ℤ z → x ≡ pos 0 → pos 0 <ℤ y → z <ℤ pos 0
    less x y z e f h = omega (arith, ints)

-- ---- straight up
-- an edge strictly above s that isn't strictly above m has a point on the way
up_alike : (e : Edge) (s m : Point) → IsPoint s → IsPoint m → IsStraightOver m s → IsLower s m → ((z : Point) → IsPoint z → IsOnTheWayUp s m z → on e z ≡ false) → strictly_above e m ≡ strictly_above e s
up_alike e s m hs hm str low clear = go (spans e s) refl
  where
    same : spans e m ≡ spans e s
    same = spans_along e m s hm hs str

    met : strictly_above e s ≡ true → spans e s ≡ true → pos 0 ≤ℤ side_rightward e m → ⊥
    met f h k = not_both (on e (over_point e s)) (over_on e s hs f) (clear (over_point e s) (over_is_point e s hs f) (record {
      straight = over_straight e s;
      higher = over_higher e s hs f;
      not_past = λ l. past (grows (side_rightward e (over_point e s)) m.W (side_rightward e m) (over_point e s).W (breadth e) (up m (over_point e s))
          (rightward_along e m (over_point e s) (straight_through m s (over_point e s) hs str (sym (over_straight e s)))) hm (over_is_point e s hs f) (breadth_positive e s hs h) (up_positive m (over_point e s) l) k)
          (rightward_on e (over_point e s) (over_on e s hs f));
    }))
      where
        past : {r : ℤ} → pos 0 <ℤ r → r ≡ pos 0 → ⊥
        past {r} h e = omega (arith, ints, h, e)

    tests : spans e s ≡ true → (side_rightward e s <ℤ pos 0) ⊎ (pos 0 ≤ℤ side_rightward e s) → int_lt (side_rightward e m) (pos 0) ≡ int_lt (side_rightward e s) (pos 0)
    tests h (inr k) = less_no (side_rightward e m) (pos 0) (weak_positive (side_rightward e m) (grows (side_rightward e m) s.W (side_rightward e s) m.W (breadth e) (up s m) (rightward_along e s m (sym str)) hs hm (breadth_positive e s hs h) (up_positive s m low) k))
        ∙ sym (less_no (side_rightward e s) (pos 0) k)
    tests h (inl k) = below_too (at_most_or_less (pos 0) (side_rightward e m)) ∙ sym (less_yes (side_rightward e s) (pos 0) k)
      where
        below_too : (pos 0 ≤ℤ side_rightward e m) ⊎ (side_rightward e m <ℤ pos 0) → int_lt (side_rightward e m) (pos 0) ≡ true
        below_too (inl l) = absurd (met (and_from (spans e s) (int_lt (side_rightward e s) (pos 0)) h (less_yes (side_rightward e s) (pos 0) k)) h l)
        below_too (inr l) = less_yes (side_rightward e m) (pos 0) l

    turned : (pos 0 ≤ℤ side_rightward e s) ⊎ (side_rightward e s <ℤ pos 0) → (side_rightward e s <ℤ pos 0) ⊎ (pos 0 ≤ℤ side_rightward e s)
    turned (inl h) = inr h
    turned (inr h) = inl h

    go : (t : Bool) → spans e s ≡ t → strictly_above e m ≡ strictly_above e s
    go false h = ap (λ (b : Bool). b && int_lt (side_rightward e m) (pos 0)) (same ∙ h) ∙ ap (λ (b : Bool). b && int_lt (side_rightward e s) (pos 0)) (sym h)
    go true h = ap₂ (λ (a b : Bool). a && b) same (tests h (turned (at_most_or_less (pos 0) (side_rightward e s))))

-- ---- straight down
-- an edge strictly above m that isn't at or above s has a point on the way
down_alike : (e : Edge) (s m : Point) → IsPoint s → IsPoint m → IsStraightOver m s → IsLower m s → ((z : Point) → IsPoint z → IsOnTheWayDown s m z → on e z ≡ false) → strictly_above e m ≡ at_or_above e s
down_alike e s m hs hm str low clear = go (spans e s) refl
  where
    same : spans e m ≡ spans e s
    same = spans_along e m s hm hs str

    above_less : (x y : ℤ) → x <ℤ y → y <ℤ x → ⊥
    above_less x y h k = omega (arith, ints)

    met : strictly_above e m ≡ true → spans e m ≡ true → pos 0 <ℤ side_rightward e s → ⊥
    met f h k = not_both (on e (over_point e m)) (over_on e m hm f) (clear (over_point e m) (over_is_point e m hm f) (record {
      straight = straight_through (over_point e m) m s hm (over_straight e m) str;
      lower = lower_from_up s (over_point e m) (falls (side_rightward e (over_point e m)) s.W (side_rightward e s) (over_point e m).W (breadth e) (up s (over_point e m))
          (rightward_along e s (over_point e m) (sym (straight_through (over_point e m) m s hm (over_straight e m) str))) (rightward_on e (over_point e m) (over_on e m hm f)) (over_is_point e m hm f) (breadth_positive e m hm h) k);
      not_past = λ l. above_less (m.Y *ℤ (over_point e m).W) ((over_point e m).Y *ℤ m.W) (over_higher e m hm f) l;
    }))

    tests : spans e s ≡ true → (pos 0 ≤ℤ side_rightward e m) ⊎ (side_rightward e m <ℤ pos 0) → int_lt (side_rightward e m) (pos 0) ≡ int_le (side_rightward e s) (pos 0)
    tests h (inl k) = less_no (side_rightward e m) (pos 0) k
        ∙ sym (at_most_no (side_rightward e s) (pos 0) (grows (side_rightward e s) m.W (side_rightward e m) s.W (breadth e) (up m s) (rightward_along e m s str) hm hs (breadth_positive e s hs h) (up_positive m s low) k))
    tests h (inr k) = less_yes (side_rightward e m) (pos 0) k ∙ sym (at_most_too (at_most_or_less (side_rightward e s) (pos 0)))
      where
        at_most_too : (side_rightward e s ≤ℤ pos 0) ⊎ (pos 0 <ℤ side_rightward e s) → int_le (side_rightward e s) (pos 0) ≡ true
        at_most_too (inl l) = at_most_yes (side_rightward e s) (pos 0) l
        at_most_too (inr l) = absurd (met (and_from (spans e m) (int_lt (side_rightward e m) (pos 0)) (same ∙ h) (less_yes (side_rightward e m) (pos 0) k)) (same ∙ h) l)

    go : (t : Bool) → spans e s ≡ t → strictly_above e m ≡ at_or_above e s
    go false h = ap (λ (b : Bool). b && int_lt (side_rightward e m) (pos 0)) (same ∙ h) ∙ ap (λ (b : Bool). b && int_le (side_rightward e s) (pos 0)) (sym h)
    go true h = ap₂ (λ (a b : Bool). a && b) same (tests h (at_most_or_less (pos 0) (side_rightward e m)))

-- ---- what is seen is off, and lies by the parity above it
-- of two points of one height, the same points are lower than the one as than the other
lower_than_same : (p q r : Point) → IsPoint p → IsPoint q → p.Y *ℤ q.W ≡ q.Y *ℤ p.W → IsLower r q → IsLower r p
lower_than_same p q r hp hq e h = less_from (r.Y *ℤ p.W) (p.Y *ℤ r.W) (sym (less_scaled q.W (r.Y *ℤ p.W) (p.Y *ℤ r.W) hq)
    ∙ ap₂ int_lt (solve (r.Y ∷ p.W ∷ q.W ∷ []) (var 2 ⊗ (var 0 ⊗ var 1)) (var 1 ⊗ (var 0 ⊗ var 2)) tt)
    (solve (p.Y ∷ q.W ∷ r.W ∷ []) (var 1 ⊗ (var 0 ⊗ var 2)) ((var 0 ⊗ var 1) ⊗ var 2) tt ∙ ap (λ (z : ℤ). z *ℤ r.W) e ∙ solve (q.Y ∷ p.W ∷ r.W ∷ []) ((var 0 ⊗ var 1) ⊗ var 2) (var 1 ⊗ (var 0 ⊗ var 2)) tt)
    ∙ less_scaled p.W (r.Y *ℤ q.W) (q.Y *ℤ r.W) hp ∙ less_yes (r.Y *ℤ q.W) (q.Y *ℤ r.W) h)

-- and the same points are higher
same_is_lower : (p q r : Point) → IsPoint p → IsPoint q → p.Y *ℤ q.W ≡ q.Y *ℤ p.W → IsLower q r → IsLower p r
same_is_lower p q r hp hq e h = less_from (p.Y *ℤ r.W) (r.Y *ℤ p.W) (sym (less_scaled q.W (p.Y *ℤ r.W) (r.Y *ℤ p.W) hq)
    ∙ ap₂ int_lt (solve (p.Y ∷ q.W ∷ r.W ∷ []) (var 1 ⊗ (var 0 ⊗ var 2)) ((var 0 ⊗ var 1) ⊗ var 2) tt ∙ ap (λ (z : ℤ). z *ℤ r.W) e ∙ solve (q.Y ∷ p.W ∷ r.W ∷ []) ((var 0 ⊗ var 1) ⊗ var 2) (var 1 ⊗ (var 0 ⊗ var 2)) tt)
    (solve (r.Y ∷ p.W ∷ q.W ∷ []) (var 2 ⊗ (var 0 ⊗ var 1)) (var 1 ⊗ (var 0 ⊗ var 2)) tt)
    ∙ less_scaled p.W (q.Y *ℤ r.W) (r.Y *ℤ q.W) hp ∙ less_yes (q.Y *ℤ r.W) (r.Y *ℤ q.W) h)

-- a position where m is would be on the way
up_away : (s m : Point) → IsPoint s → IsPoint m → IsStraightOver m s → IsLower s m → (a : Position) → (IsOnTheWayUp s m (point_at a) → ⊥) → is_at m a ≡ false
up_away s m hs hm str low a clear = by_contraries (is_at m a) false (λ h. absurd (clear (record {
  straight = straight_through (point_at a) m s hm (same_x (point_at a) m h) str;
  higher = lower_than_same (point_at a) m s (position_is_point a) hm (same_y (point_at a) m h) low;
  not_past = λ l. same_not_less (m.Y *ℤ pos 1) (a.y *ℤ m.W) (sym (same_y (point_at a) m h)) l;
}))) refl

down_away : (s m : Point) → IsPoint s → IsPoint m → IsStraightOver m s → IsLower m s → (a : Position) → (IsOnTheWayDown s m (point_at a) → ⊥) → is_at m a ≡ false
down_away s m hs hm str low a clear = by_contraries (is_at m a) false (λ h. absurd (clear (record {
  straight = straight_through (point_at a) m s hm (same_x (point_at a) m h) str;
  lower = same_is_lower (point_at a) m s (position_is_point a) hm (same_y (point_at a) m h) low;
  not_past = λ l. same_not_less (a.y *ℤ m.W) (m.Y *ℤ pos 1) (same_y (point_at a) m h) l;
}))) refl

self : (x : ℤ) → x <ℤ x → ⊥
self x h = omega (arith, ints)

up_off : (g : Geometry) (s m : Point) → IsPoint s → SeesUp g s m → IsOff g m
up_off g s m hs h = record {
  edges = all_from_each (λ e. on e m ≡ false) (edges g) (each_map (λ e. (z : Point) → IsPoint z → IsOnTheWayUp s m z → on e z ≡ false) (λ e. on e m ≡ false) (edges g)
      (λ e k. k m h.is_point (record { straight = h.straight; higher = h.higher; not_past = self (m.Y *ℤ m.W) }))
      (each_from_all (λ e. (z : Point) → IsPoint z → IsOnTheWayUp s m z → on e z ≡ false) (edges g) h.edges));
  positions = all_from_each (λ a. is_at m a ≡ false) (listed g) (each_map (λ a. IsOnTheWayUp s m (point_at a) → ⊥) (λ a. is_at m a ≡ false) (listed g)
      (up_away s m hs h.is_point h.straight h.higher)
      (each_from_all (λ a. IsOnTheWayUp s m (point_at a) → ⊥) (listed g) h.positions));
}

down_off : (g : Geometry) (s m : Point) → IsPoint s → SeesDown g s m → IsOff g m
down_off g s m hs h = record {
  edges = all_from_each (λ e. on e m ≡ false) (edges g) (each_map (λ e. (z : Point) → IsPoint z → IsOnTheWayDown s m z → on e z ≡ false) (λ e. on e m ≡ false) (edges g)
      (λ e k. k m h.is_point (record { straight = h.straight; lower = h.lower; not_past = self (m.Y *ℤ m.W) }))
      (each_from_all (λ e. (z : Point) → IsPoint z → IsOnTheWayDown s m z → on e z ≡ false) (edges g) h.edges));
  positions = all_from_each (λ a. is_at m a ≡ false) (listed g) (each_map (λ a. IsOnTheWayDown s m (point_at a) → ⊥) (λ a. is_at m a ≡ false) (listed g)
      (down_away s m hs h.is_point h.straight h.lower)
      (each_from_all (λ a. IsOnTheWayDown s m (point_at a) → ⊥) (listed g) h.positions));
}

off_from : (g : Geometry) (p : Point) → IsOff g p → Off g p
off_from g p o = record { edges_off = each_from_all (λ e. on e p ≡ false) (edges g) o.edges; listed_off = each_from_all (λ a. is_at p a ≡ false) (listed g) o.positions }

-- the end of a view is off, and lies by the parity above it, which is that above the point looked from
pub face_point_above : (g : Geometry) (s m : Point) → IsPoint s → SeesUp g s m → IsOff g m × (locate g m ≡ above g s)
face_point_above g s m hs h = (
  up_off g s m hs h,
  locate_off g m h.is_point (off_from g m (up_off g s m hs h)) ∙ above_from g s m
      (each_map (λ e. (z : Point) → IsPoint z → IsOnTheWayUp s m z → on e z ≡ false) (λ e. strictly_above e m ≡ strictly_above e s) (edges g) (λ e k. up_alike e s m hs h.is_point h.straight h.higher k)
      (each_from_all (λ e. (z : Point) → IsPoint z → IsOnTheWayUp s m z → on e z ≡ false) (edges g) h.edges)),
)

-- the end of a view down has above it what is at or above the point looked from
pub face_point_below : (g : Geometry) (s m : Point) → IsPoint s → SeesDown g s m → IsOff g m × (locate g m ≡ below g s)
face_point_below g s m hs h = (
  down_off g s m hs h,
  locate_off g m h.is_point (off_from g m (down_off g s m hs h)) ∙ below_from g s m
      (each_map (λ e. (z : Point) → IsPoint z → IsOnTheWayDown s m z → on e z ≡ false) (λ e. strictly_above e m ≡ at_or_above e s) (edges g) (λ e k. down_alike e s m hs h.is_point h.straight h.lower k)
      (each_from_all (λ e. (z : Point) → IsPoint z → IsOnTheWayDown s m z → on e z ≡ false) (edges g) h.edges)),
)
