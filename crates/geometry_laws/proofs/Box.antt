-- A point off finitely many edges has a triangle off them, with the point as a corner.
use Rattle.std.proofs.Common.{ℕ, zero, suc, ◌+◌, ◌*◌, ◌<◌, ℤ, pos, ◌+ℤ◌, ◌*ℤ◌, ◌<ℤ◌, ◌≡◌, ◌≢◌, false, sym, subst, List, [], ◌∷◌, arith}
use borrow.Author.Differences.{ints}
use Rattle.geometry_model.specs.Points.{Point, IsPoint}
use Rattle.geometry_model.specs.Geometries.{Edge}
use Rattle.geometry_model.specs.Sides.{on}
use Rattle.geometry_model.specs.Dimensions.{area, weighted, weighted_three}
use Rattle.basics.proofs.Ring.{solve, var, lit, ◌⊕◌, ◌⊖◌, ◌⊗◌}
use Rattle.basics.proofs.Signs.{strict_plus_plus}
use Rattle.basics.proofs.Orders.{natural_positive, positive_same}
use Rattle.geometry_laws.specs.RingLaws.{Misses}
use Rattle.geometry_laws.proofs.Each.{Each, each_map}
use Rattle.geometry_laws.proofs.Eventually.{Eventually, both, weaker, each_eventually, grows, from_one}
use Rattle.geometry_laws.specs.CoverLaws.{Line, value}
use Rattle.geometry_laws.proofs.Lines.{value_weighted, value_weighted_three, Parts, Parted, parted, off_beyond, sum_positive_three, weighted_three_is_point}

-- one step to the right, one step up
pub east : Point
east = record { X = pos 1; Y = pos 0; W = pos 0 }

pub north : Point
north = record { X = pos 0; Y = pos 1; W = pos 0 }

-- the point moved to the right or up by 1/(n W)
abbrev pub moved : ℕ → Point → Point → Point
moved n p step = weighted n p 1 step

-- the line stays above 0 near the point
stays : (l : Line) (p step : Point) → pos 0 <ℤ value l p → Eventually (λ n. pos 0 <ℤ value l (moved n p step))
stays l p step h = weaker (λ n. pos 0 <ℤ (pos n *ℤ value l p +ℤ value l step)) (λ n. pos 0 <ℤ value l (moved n p step)) (λ n k. carried (value l (moved n p step)) (pos n *ℤ value l p) (value l step) (value_weighted l n p 1 step) k) (grows (value l p) (value l step) h)
  where
    carried : (x y z : ℤ) → x ≡ y +ℤ pos 1 *ℤ z → pos 0 <ℤ (y +ℤ z) → pos 0 <ℤ x
    carried x y z e h = omega (arith, ints)

-- an edge, and a line that parts it from the point and from both moved points
pub record Clear (p : Point) (e : Edge) (n : ℕ) : Type 0 where
  pub line : Line
  pub parts : Parts e line
  pub at_p : pos 0 <ℤ value line p
  pub at_east : pos 0 <ℤ value line (moved n p east)
  pub at_north : pos 0 <ℤ value line (moved n p north)

-- off an edge a line parts it from the point, and soon from both moved points
clear_soon : (p : Point) (e : Edge) → on e p ≡ false → Eventually (Clear p e)
clear_soon p e f = go (parted e p f)
  where
    go : Parted e p → Eventually (Clear p e)
    go d = weaker (λ n. (pos 0 <ℤ value d.line (moved n p east)) × (pos 0 <ℤ value d.line (moved n p north))) (Clear p e)
        (λ n h. record { line = d.line; parts = d.parts; at_p = d.above_at; at_east = h.0; at_north = h.1 })
        (both (λ n. pos 0 <ℤ value d.line (moved n p east)) (λ n. pos 0 <ℤ value d.line (moved n p north)) (stays d.line p east d.above_at) (stays d.line p north d.above_at))

-- the corners beside the point
pub record Corners (p : Point) (es : List Edge) : Type 0 where
  pub q : Point
  pub r : Point
  pub q_is_point : IsPoint q
  pub r_is_point : IsPoint r
  pub wide : area p q r ≢ pos 0
  pub off : (k m n : ℕ) → 0 < k + m + n → Each (λ e. on e (weighted_three k p m q n r) ≡ false) es

-- the area of the three corners is the point's denominator, so they aren't on one line
corner_area : (p : Point) (n : ℕ) → area p (moved n p east) (moved n p north) ≡ p.W
unfolding east north
corner_area p n = solve (p.X ∷ p.Y ∷ p.W ∷ pos n ∷ [])
    (var 0 ⊗ ((var 3 ⊗ var 1 ⊕ lit (pos 1) ⊗ lit (pos 0)) ⊗ (var 3 ⊗ var 2 ⊕ lit (pos 1) ⊗ lit (pos 0)) ⊖ (var 3 ⊗ var 1 ⊕ lit (pos 1) ⊗ lit (pos 1)) ⊗ (var 3 ⊗ var 2 ⊕ lit (pos 1) ⊗ lit (pos 0)))
    ⊖ var 1 ⊗ ((var 3 ⊗ var 0 ⊕ lit (pos 1) ⊗ lit (pos 1)) ⊗ (var 3 ⊗ var 2 ⊕ lit (pos 1) ⊗ lit (pos 0)) ⊖ (var 3 ⊗ var 0 ⊕ lit (pos 1) ⊗ lit (pos 0)) ⊗ (var 3 ⊗ var 2 ⊕ lit (pos 1) ⊗ lit (pos 0)))
    ⊕ var 2 ⊗ ((var 3 ⊗ var 0 ⊕ lit (pos 1) ⊗ lit (pos 1)) ⊗ (var 3 ⊗ var 1 ⊕ lit (pos 1) ⊗ lit (pos 1)) ⊖ (var 3 ⊗ var 0 ⊕ lit (pos 1) ⊗ lit (pos 0)) ⊗ (var 3 ⊗ var 1 ⊕ lit (pos 1) ⊗ lit (pos 0))))
    (var 2) tt

-- moved to the right it is a point
moved_is_point : (p : Point) (n : ℕ) → 0 < n → IsPoint p → IsPoint (moved n p east)
unfolding east
moved_is_point p n h hp = carried (pos n *ℤ p.W) (strict_plus_plus (pos n) p.W (natural_positive n h) hp)
  where
    carried : (x : ℤ) → pos 0 <ℤ x → pos 0 <ℤ (x +ℤ pos 0)
    carried x h = omega (arith, ints)

-- and moved up
moved_up_is_point : (p : Point) (n : ℕ) → 0 < n → IsPoint p → IsPoint (moved n p north)
unfolding north
moved_up_is_point p n h hp = carried (pos n *ℤ p.W) (strict_plus_plus (pos n) p.W (natural_positive n h) hp)
  where
    carried : (x : ℤ) → pos 0 <ℤ x → pos 0 <ℤ (x +ℤ pos 0)
    carried x h = omega (arith, ints)

-- where a line parts an edge from all three corners, no point of the triangle is on the edge
off_by_clear : (p : Point) (n : ℕ) → IsPoint p → IsPoint (moved n p east) → IsPoint (moved n p north) → (k m l : ℕ) → 0 < k + m + l → (e : Edge) → Clear p e n → on e (weighted_three k p m (moved n p east) l (moved n p north)) ≡ false
off_by_clear p n hp hq hr k m l h e c = off_beyond c.line e (weighted_three k p m (moved n p east) l (moved n p north)) (weighted_three_is_point k p m (moved n p east) l (moved n p north) hp hq hr h) c.parts
    (positive_same _ _ (value_weighted_three c.line k p m (moved n p east) l (moved n p north)) (sum_positive_three k m l (value c.line p) (value c.line (moved n p east)) (value c.line (moved n p north)) h c.at_p c.at_east c.at_north))

-- off finitely many edges each has a line that parts it from the point, and near enough the point no such line is crossed
pub box : (p : Point) (es : List Edge) → IsPoint p → Each (λ e. on e p ≡ false) es → Corners p es
box p es hp h = go (both (λ n. 0 < n) (λ n. Each (λ e. Clear p e n) es) (from_one (λ n. 0 < n) (λ n k. k)) (each_eventually (Clear p) es (each_map (λ e. on e p ≡ false) (λ e. Eventually (Clear p e)) es (clear_soon p) h)))
  where
    nonzero : (x w : ℤ) → x ≡ w → pos 0 <ℤ w → x ≢ pos 0
    nonzero x w e h f = omega (arith, ints)

    at : (n : ℕ) → (0 < n) × Each (λ e. Clear p e n) es → Corners p es
    at n c = record {
      q = moved n p east;
      r = moved n p north;
      q_is_point = moved_is_point p n c.0 hp;
      r_is_point = moved_up_is_point p n c.0 hp;
      wide = nonzero (area p (moved n p east) (moved n p north)) p.W (corner_area p n) hp;
      off = λ k m l g. each_map (λ e. Clear p e n) (λ e. on e (weighted_three k p m (moved n p east) l (moved n p north)) ≡ false) es (off_by_clear p n hp (moved_is_point p n c.0 hp) (moved_up_is_point p n c.0 hp) k m l g) c.1;
    }

    go : Eventually (λ n. (0 < n) × Each (λ e. Clear p e n) es) → Corners p es
    go v = at v.start (v.holds v.start (omega arith))

-- ---- the stretch from the point to a point of the triangle lies in the triangle
-- a point between p and a point of the triangle is a sum of the three corners
weighted_within : (s k m l t : ℕ) (p q r : Point) → weighted s p t (weighted_three k p m q l r) ≡ weighted_three (s + t * k) p (t * m) q (t * l) r
weighted_within s k m l t p q r = λ i. record { X = coordinate p.X q.X r.X i; Y = coordinate p.Y q.Y r.Y i; W = coordinate p.W q.W r.W i }
  where
    coordinate : (x y z : ℤ) → pos s *ℤ x +ℤ pos t *ℤ (pos k *ℤ x +ℤ pos m *ℤ y +ℤ pos l *ℤ z) ≡ pos (s + t * k) *ℤ x +ℤ pos (t * m) *ℤ y +ℤ pos (t * l) *ℤ z
    coordinate x y z = solve (x ∷ y ∷ z ∷ pos s ∷ pos t ∷ pos k ∷ pos m ∷ pos l ∷ [])
        (var 3 ⊗ var 0 ⊕ var 4 ⊗ (var 5 ⊗ var 0 ⊕ var 6 ⊗ var 1 ⊕ var 7 ⊗ var 2)) ((var 3 ⊕ var 4 ⊗ var 5) ⊗ var 0 ⊕ (var 4 ⊗ var 6) ⊗ var 1 ⊕ (var 4 ⊗ var 7) ⊗ var 2) tt

-- and its weights aren't all 0
some_weight : (s t k m l : ℕ) → 0 < s + t → 0 < k + m + l → 0 < (s + t * k) + t * m + t * l
some_weight s zero k m l h g = omega arith
some_weight s (suc t) k m l h g = omega arith

-- no stretch from the point to a point of the triangle meets an edge, since the triangle lies on one side of each edge's line
pub misses_within : (p : Point) (es : List Edge) (c : Corners p es) (k m l : ℕ) → 0 < k + m + l → Each (Misses p (weighted_three k p m c.q l c.r)) es
misses_within p es c k m l h = gather es (λ s t g. subst (λ (z : Point). Each (λ e. on e z ≡ false) es) (sym (weighted_within s k m l t p c.q c.r)) (c.off (s + t * k) (t * m) (t * l) (some_weight s t k m l g h)))
  where
    gather : (fs : List Edge) → ((s t : ℕ) → 0 < s + t → Each (λ e. on e (weighted s p t (weighted_three k p m c.q l c.r)) ≡ false) fs) → Each (Misses p (weighted_three k p m c.q l c.r)) fs
    gather [] f = tt
    gather (e ∷ fs) f = (λ s t g. (f s t g).0, gather fs (λ s t g. (f s t g).1))
