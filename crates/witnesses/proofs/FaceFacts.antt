-- A point half-way to the nearest height is seen.
use Rattle.std.proofs.Common.{ℤ, pos, ◌-ℤ◌, ◌*ℤ◌, ◌≤ℤ◌, ◌<ℤ◌, ◌≡◌, refl, sym, ap, ◌∙◌, [], ◌∷◌, get_or, arith}
use Rattle.std.proofs.lemmas.Bool.{false_from_ne_true}
use borrow.Author.Differences.{ints}
use Rattle.geometry_model.specs.Points.{Point, IsPoint, point_at}
use Rattle.geometry_model.specs.Geometries.{Geometry, edges, listed}
use Rattle.geometry_model.specs.Sides.{on}
use Rattle.basics.proofs.Ring.{solve, var, lit, ◌⊕◌, ◌⊖◌, ◌⊗◌}
use Rattle.basics.proofs.Signs.{strict_plus_plus, cancel_positive, zero_times}
use Rattle.basics.proofs.Orders.{gap_positive, weak_positive, positive_same, less_from_gap}
use Rattle.geometry_laws.specs.CoverLaws.{IsLower}
use Rattle.geometry_laws.proofs.RingParity.{position_is_point}
use Rattle.geometry_laws.specs.FaceLaws.{IsOnTheWayUp, IsOnTheWayDown, SeesUp, SeesDown}
use Rattle.witnesses.specs.declared.heights.Side.{Side}
use Rattle.witnesses.specs.declared.heights.Side.TheVariants.{Upper, Lower}
use Rattle.witnesses.specs.declared.heights.Height.{Height}
use Rattle.witnesses.specs.Heights.{ahead, IsAhead, Keeps, IsHeight, moved_point}
use Rattle.witnesses.specs.Shown.{Clears, IsHalfWay}

-- ---- a moved point
ahead_of_moved : (sd : Side) (p : Point) (scale rise : ℤ) → ahead sd p (moved_point sd p scale rise) ≡ rise *ℤ p.W
ahead_of_moved Upper p scale rise = solve (p.Y ∷ p.W ∷ scale ∷ rise ∷ []) ((var 2 ⊗ var 0 ⊕ var 3) ⊗ var 1 ⊖ var 0 ⊗ (var 2 ⊗ var 1)) (var 3 ⊗ var 1) tt
ahead_of_moved Lower p scale rise = solve (p.Y ∷ p.W ∷ scale ∷ rise ∷ []) (var 0 ⊗ (var 2 ⊗ var 1) ⊖ (var 2 ⊗ var 0 ⊖ var 3) ⊗ var 1) (var 3 ⊗ var 1) tt

w_of_moved : (sd : Side) (p : Point) (scale rise : ℤ) → (moved_point sd p scale rise).W ≡ scale *ℤ p.W
w_of_moved Upper p scale rise = refl
w_of_moved Lower p scale rise = refl

x_of_moved : (sd : Side) (p : Point) (scale rise : ℤ) → (moved_point sd p scale rise).X ≡ scale *ℤ p.X
x_of_moved Upper p scale rise = refl
x_of_moved Lower p scale rise = refl

-- it is straight ahead
pub moved_is_ahead : (sd : Side) (p : Point) (scale rise : ℤ) → IsPoint p → pos 0 <ℤ scale → pos 0 <ℤ rise → IsAhead sd p (moved_point sd p scale rise)
moved_is_ahead sd p scale rise hp hs hr = record {
  is_point = positive_same _ (scale *ℤ p.W) (w_of_moved sd p scale rise) (strict_plus_plus scale p.W hs hp);
  straight = ap (λ (t : ℤ). t *ℤ p.W) (x_of_moved sd p scale rise) ∙ solve (p.X ∷ p.W ∷ scale ∷ []) (var 2 ⊗ var 0 ⊗ var 1) (var 0 ⊗ (var 2 ⊗ var 1)) tt ∙ sym (ap (λ (t : ℤ). p.X *ℤ t) (w_of_moved sd p scale rise));
  ahead = positive_same _ (rise *ℤ p.W) (ahead_of_moved sd p scale rise) (strict_plus_plus rise p.W hr hp);
}

less_by : (x y s t : ℤ) → x ≡ s → y ≡ t → s <ℤ t → x <ℤ y
less_by x y s t e f h = omega (arith, ints)

-- and nearer than all z for which rise z.W is less than scale times how far z is ahead
moved_is_nearer : (sd : Side) (p z : Point) (scale rise : ℤ) → IsPoint p → (rise *ℤ z.W) <ℤ (scale *ℤ ahead sd p z) → (ahead sd p (moved_point sd p scale rise) *ℤ z.W) <ℤ (ahead sd p z *ℤ (moved_point sd p scale rise).W)
moved_is_nearer sd p z scale rise hp h = less_by _ _ (p.W *ℤ (rise *ℤ z.W)) (p.W *ℤ (scale *ℤ ahead sd p z))
    (ap (λ (t : ℤ). t *ℤ z.W) (ahead_of_moved sd p scale rise) ∙ solve (p.W ∷ z.W ∷ rise ∷ []) (var 2 ⊗ var 0 ⊗ var 1) (var 0 ⊗ (var 2 ⊗ var 1)) tt)
    (ap (λ (t : ℤ). ahead sd p z *ℤ t) (w_of_moved sd p scale rise) ∙ solve (p.W ∷ scale ∷ ahead sd p z ∷ []) (var 2 ⊗ (var 1 ⊗ var 0)) (var 0 ⊗ (var 1 ⊗ var 2)) tt)
    (scaled p.W (rise *ℤ z.W) (scale *ℤ ahead sd p z) hp h)
  where
    from : (s t d : ℤ) → t -ℤ s ≡ d → pos 0 <ℤ d → s <ℤ t
    from s t d e h = omega (arith, ints)

    scaled : (w x y : ℤ) → pos 0 <ℤ w → x <ℤ y → (w *ℤ x) <ℤ (w *ℤ y)
    scaled w x y hw h = from (w *ℤ x) (w *ℤ y) (w *ℤ (y -ℤ x)) (solve (w ∷ x ∷ y ∷ []) (var 0 ⊗ var 2 ⊖ var 0 ⊗ var 1) (var 0 ⊗ (var 2 ⊖ var 1)) tt) (strict_plus_plus w (y -ℤ x) hw (gap_positive x y h))

-- ---- half-way to a height, or one step where there is nothing
pub half_way : (sd : Side) (p : Point) (h : Height) (m : Point) (scale : ℤ) → IsPoint p → IsHeight h → pos 0 <ℤ h.run → scale ≡ pos 2 *ℤ h.run → m ≡ moved_point sd p scale h.rise → IsHalfWay sd p h m
half_way sd p h m scale hp hh hr es em = rw em (record {
  is_ahead = moved_is_ahead sd p scale h.rise hp (twice scale h.run es hr) hh.positive;
  nearer = λ z i k. moved_is_nearer sd p z scale h.rise hp
      (more (h.rise *ℤ z.W) (h.run *ℤ ahead sd p z) (scale *ℤ ahead sd p z) (ap (λ (t : ℤ). t *ℤ ahead sd p z) es ∙ solve (h.run ∷ ahead sd p z ∷ []) (lit (pos 2) ⊗ var 0 ⊗ var 1) (lit (pos 2) ⊗ (var 0 ⊗ var 1)) tt) k (strict_plus_plus h.run (ahead sd p z) hr i.ahead));
})
  where
    twice : (s r : ℤ) → s ≡ pos 2 *ℤ r → pos 0 <ℤ r → pos 0 <ℤ s
    twice s r e h = omega (arith, ints)

    more : (x y z : ℤ) → z ≡ pos 2 *ℤ y → x ≤ℤ y → pos 0 <ℤ y → x <ℤ z
    more x y z e h k = omega (arith, ints)

pub one_step : (sd : Side) (p : Point) (h : Height) (m : Point) (scale rise : ℤ) → IsPoint p → IsHeight h → h.run ≡ pos 0 → scale ≡ pos 1 → rise ≡ p.W → m ≡ moved_point sd p scale rise → IsHalfWay sd p h m
one_step sd p h m scale rise hp hh er es ew em = rw em (record { is_ahead = moved_is_ahead sd p scale rise hp (one scale es) (positive_same rise p.W ew hp); nearer = λ z i k. absurd (clash (h.rise *ℤ z.W) (h.run *ℤ ahead sd p z) (strict_plus_plus h.rise z.W hh.positive i.is_point) k (zero_times h.run (ahead sd p z) er)) })
  where
    one : (s : ℤ) → s ≡ pos 1 → pos 0 <ℤ s
    one s e = omega (arith, ints)

    clash : (x y : ℤ) → pos 0 <ℤ x → x ≤ℤ y → y ≡ pos 0 → ⊥
    clash x y h k e = omega (arith, ints)

-- ---- what is kept
pub clears_kept : (sd : Side) (p : Point) (h f : Height) (g : Geometry) → Keeps sd p h f → Clears sd p h g → Clears sd p f g
clears_kept sd p h f g k c = record {
  edges = λ i d l z a o. k z a (c.edges i d l z a o);
  positions = λ i d l a. k (point_at (get_or (listed g) i d)) a (c.positions i d l a);
}

-- ---- seen
-- where a difference is w times another, w being above 0, both have one sign
less_from_scaled : (s t x y w : ℤ) → t -ℤ s ≡ w *ℤ (y -ℤ x) → pos 0 <ℤ w → s <ℤ t → x <ℤ y
less_from_scaled s t x y w e hw h = less_from_gap x y (cancel_positive w (y -ℤ x) (weak_positive w hw) (carried s t (w *ℤ (y -ℤ x)) e h))
  where
    carried : (s t d : ℤ) → t -ℤ s ≡ d → s <ℤ t → pos 0 <ℤ d
    carried s t d e h = omega (arith, ints)

-- what is further up than m is above m
past_is_higher : (p m z : Point) → IsPoint p → (ahead Upper p m *ℤ z.W) <ℤ (ahead Upper p z *ℤ m.W) → IsLower m z
past_is_higher p m z hp h = less_from_scaled (ahead Upper p m *ℤ z.W) (ahead Upper p z *ℤ m.W) (m.Y *ℤ z.W) (z.Y *ℤ m.W) p.W (solve (p.Y ∷ p.W ∷ m.Y ∷ m.W ∷ z.Y ∷ z.W ∷ [])
    ((var 4 ⊗ var 1 ⊖ var 0 ⊗ var 5) ⊗ var 3 ⊖ (var 2 ⊗ var 1 ⊖ var 0 ⊗ var 3) ⊗ var 5) (var 1 ⊗ (var 4 ⊗ var 3 ⊖ var 2 ⊗ var 5)) tt) hp h

-- and what is further down is below it
past_is_lower : (p m z : Point) → IsPoint p → (ahead Lower p m *ℤ z.W) <ℤ (ahead Lower p z *ℤ m.W) → IsLower z m
past_is_lower p m z hp h = less_from_scaled (ahead Lower p m *ℤ z.W) (ahead Lower p z *ℤ m.W) (z.Y *ℤ m.W) (m.Y *ℤ z.W) p.W (solve (p.Y ∷ p.W ∷ m.Y ∷ m.W ∷ z.Y ∷ z.W ∷ [])
    ((var 0 ⊗ var 5 ⊖ var 4 ⊗ var 1) ⊗ var 3 ⊖ (var 0 ⊗ var 3 ⊖ var 2 ⊗ var 1) ⊗ var 5) (var 1 ⊗ (var 2 ⊗ var 5 ⊖ var 4 ⊗ var 3)) tt) hp h

pub sees_up : (g : Geometry) (p m : Point) (h : Height) → IsPoint p → IsHalfWay Upper p h m → Clears Upper p h g → SeesUp g p m
sees_up g p m h hp half c = record {
  is_point = half.is_ahead.is_point;
  straight = half.is_ahead.straight;
  higher = less_from_gap (p.Y *ℤ m.W) (m.Y *ℤ p.W) half.is_ahead.ahead;
  edges = λ i d l z hz w. false_from_ne_true (on (get_or (edges g) i d) z) (λ o. w.not_past (past_is_higher p m z hp (half.nearer z (on_the_way z hz w) (c.edges i d l z (on_the_way z hz w) o))));
  positions = λ i d l w. let z : Point = point_at (get_or (listed g) i d) in let k : IsAhead Upper p z = on_the_way z (position_is_point (get_or (listed g) i d)) w in w.not_past (past_is_higher p m z hp (half.nearer z k (c.positions i d l k)));
}
  where
    on_the_way : (z : Point) → IsPoint z → IsOnTheWayUp p m z → IsAhead Upper p z
    on_the_way z hz w = record { is_point = hz; straight = w.straight; ahead = gap_positive (p.Y *ℤ z.W) (z.Y *ℤ p.W) w.higher }

pub sees_down : (g : Geometry) (p m : Point) (h : Height) → IsPoint p → IsHalfWay Lower p h m → Clears Lower p h g → SeesDown g p m
sees_down g p m h hp half c = record {
  is_point = half.is_ahead.is_point;
  straight = half.is_ahead.straight;
  lower = less_from_gap (m.Y *ℤ p.W) (p.Y *ℤ m.W) half.is_ahead.ahead;
  edges = λ i d l z hz w. false_from_ne_true (on (get_or (edges g) i d) z) (λ o. w.not_past (past_is_lower p m z hp (half.nearer z (on_the_way z hz w) (c.edges i d l z (on_the_way z hz w) o))));
  positions = λ i d l w. let z : Point = point_at (get_or (listed g) i d) in let k : IsAhead Lower p z = on_the_way z (position_is_point (get_or (listed g) i d)) w in w.not_past (past_is_lower p m z hp (half.nearer z k (c.positions i d l k)));
}
  where
    on_the_way : (z : Point) → IsPoint z → IsOnTheWayDown p m z → IsAhead Lower p z
    on_the_way z hz w = record { is_point = hz; straight = w.straight; ahead = gap_positive (z.Y *ℤ p.W) (p.Y *ℤ z.W) w.lower }

-- on a side that is known
pub both_up : (sd : Side) (a b : Geometry) (p m : Point) (h : Height) → IsPoint p → IsHalfWay sd p h m → Clears sd p h a → Clears sd p h b → sd ≡ Upper → SeesUp a p m × SeesUp b p m
both_up Upper a b p m h hp half c d e = (sees_up a p m h hp half c, sees_up b p m h hp half d)
both_up Lower a b p m h hp half c d e = absurd cc

pub both_down : (sd : Side) (a b : Geometry) (p m : Point) (h : Height) → IsPoint p → IsHalfWay sd p h m → Clears sd p h a → Clears sd p h b → sd ≡ Lower → SeesDown a p m × SeesDown b p m
both_down Lower a b p m h hp half c d e = (sees_down a p m h hp half c, sees_down b p m h hp half d)
both_down Upper a b p m h hp half c d e = absurd cc
