-- Around a point off two geometries there is a triangle of points that lie where it does.
use Rattle.std.proofs.Common.{ℕ, ◌+◌, ◌<◌, ℤ, pos, ◌+ℤ◌, ◌-ℤ◌, ◌*ℤ◌, ◌<ℤ◌, ◌≡◌, Bool, true, false, if◌then◌else◌, refl, sym, ap, ap₂, ◌∙◌, List, [], ◌∷◌, ◌++◌, map}
use Rattle.geometry_model.specs.Points.{Position, Point, IsPoint, point_at}
use Rattle.geometry_model.specs.Geometries.{Edge, Geometry, edges, listed, rings, joined_rings}
use Rattle.geometry_model.specs.Sides.{on}
use Rattle.geometry_model.specs.Dimensions.{weighted_three, HasTriangle, common}
use Rattle.geometry_model.specs.Locations.{is_at, locate}
use Rattle.geometry_model.specs.Labels.{above, edges_of_both}
use Rattle.geometry_model.specs.declared.point_sets.Location.{Location}
use Rattle.geometry_model.specs.declared.point_sets.Location.TheVariants.{Interior, Exterior}
use Rattle.basics.proofs.Ring.{solve, var, lit, ◌⊕◌, ◌⊖◌, ◌⊗◌}
use Rattle.basics.proofs.Signs.{cancel_zero}
use Rattle.basics.proofs.Bools.{by_contraries}
use Rattle.basics.proofs.Orders.{no_difference}
use Rattle.geometry_laws.specs.RingLaws.{IsClosed, Misses}
use Rattle.geometry_laws.proofs.Each.{Each, each_left, each_right}
use Rattle.geometry_laws.proofs.RingParity.{parity_by_missing}
use Rattle.geometry_laws.proofs.Scaling.{same_from}
use Rattle.geometry_laws.proofs.Hulls.{OnHull, hull_from_on}
use Rattle.geometry_laws.proofs.Lines.{weighted_three_is_point}
use Rattle.geometry_laws.proofs.Box.{Corners, box, misses_within}
use Rattle.geometry_laws.proofs.Locating.{Off, locate_off, start_is_on}

-- ---- a listed position as an edge with equal ends
abbrev pub dot : Position → Edge
dot a = record { start = a; end = a }

abbrev pub dots : List Position → List Edge
dots ps = map dot ps

-- a point off the dot of a position isn't at the position
dot_off : (a : Position) (p : Point) → IsPoint p → on (dot a) p ≡ false → is_at p a ≡ false
dot_off a p hp h = by_contraries (is_at p a) (on (dot a) p) (start_is_on (dot a) p hp) h

-- a sum of one number with itself, over the sum of the weights, is that number
pub dot_coordinate : (k m n a x w : ℤ) → pos 0 <ℤ k → k *ℤ x ≡ m *ℤ a +ℤ n *ℤ a → k *ℤ w ≡ m +ℤ n → a *ℤ w ≡ x *ℤ pos 1
dot_coordinate k m n a x w h e f = no_difference (a *ℤ w) (x *ℤ pos 1) (cancel_zero k (a *ℤ w -ℤ x *ℤ pos 1) h
    (solve (k ∷ a ∷ x ∷ w ∷ []) (var 0 ⊗ (var 1 ⊗ var 3 ⊖ var 2 ⊗ lit (pos 1))) (var 1 ⊗ (var 0 ⊗ var 3) ⊖ var 0 ⊗ var 2) tt
    ∙ ap₂ (λ (s t : ℤ). a *ℤ s -ℤ t) f e ∙ solve (a ∷ m ∷ n ∷ []) (var 0 ⊗ (var 1 ⊕ var 2) ⊖ (var 1 ⊗ var 0 ⊕ var 2 ⊗ var 0)) (lit (pos 0)) tt))

-- an edge without length holds its own position alone
pub dot_is_at : (a : Position) (p : Point) → IsPoint p → on (dot a) p ≡ true → is_at p a ≡ true
dot_is_at a p hp h = go (hull_from_on (dot a) p hp h)
  where
    go : OnHull (dot a) p → is_at p a ≡ true
    go o = same_from (point_at a) p (dot_coordinate o.k o.m o.n a.x p.X p.W o.from_k o.x_is o.w_is) (dot_coordinate o.k o.m o.n a.y p.Y p.W o.from_k o.y_is o.w_is)

-- ---- all edges and dots of two geometries
abbrev pub marks : Geometry → Geometry → List Edge
marks a b = edges_of_both a b ++ dots (listed a ++ listed b)

abbrev OffAll : List Edge → Point → Type 0
OffAll es p = Each (λ e. on e p ≡ false) es

-- so a point off all dots is at none of the positions
dots_off : (ps : List Position) (p : Point) → IsPoint p → OffAll (dots ps) p → Each (λ a. is_at p a ≡ false) ps
dots_off [] p hp h = tt
dots_off (a ∷ ps) p hp h = (dot_off a p hp h.0, dots_off ps p hp h.1)

-- a point off all marks of two geometries is off the first
pub off_first : (a b : Geometry) (p : Point) → IsPoint p → OffAll (marks a b) p → Off a p
off_first a b p hp h = record {
  edges_off = each_left (λ e. on e p ≡ false) (edges a) (edges b) (each_left (λ e. on e p ≡ false) (edges_of_both a b) (dots (listed a ++ listed b)) h);
  listed_off = each_left (λ q. is_at p q ≡ false) (listed a) (listed b) (dots_off (listed a ++ listed b) p hp (each_right (λ e. on e p ≡ false) (edges_of_both a b) (dots (listed a ++ listed b)) h));
}

-- and off the second
pub off_second : (a b : Geometry) (p : Point) → IsPoint p → OffAll (marks a b) p → Off b p
off_second a b p hp h = record {
  edges_off = each_right (λ e. on e p ≡ false) (edges a) (edges b) (each_left (λ e. on e p ≡ false) (edges_of_both a b) (dots (listed a ++ listed b)) h);
  listed_off = each_right (λ q. is_at p q ≡ false) (listed a) (listed b) (dots_off (listed a ++ listed b) p hp (each_right (λ e. on e p ≡ false) (edges_of_both a b) (dots (listed a ++ listed b)) h));
}

-- ---- the parity of a geometry's rings along a stretch that misses its edges
-- other types have no rings; an area's parity is the same at both ends of the stretch
pub above_kept : (g : Geometry) (p z : Point) → IsPoint p → IsPoint z → Each IsClosed (rings g) → Each (Misses p z) (edges g) → above g p ≡ above g z
above_kept (Geometry.Point o) p z hp hz c h = refl
above_kept (Geometry.MultiPoint ps) p z hp hz c h = refl
above_kept (Geometry.LineString l) p z hp hz c h = refl
above_kept (Geometry.MultiLineString ls) p z hp hz c h = refl
above_kept (Geometry.Polygon rs) p z hp hz c h = ap (λ (t : Bool). if t then Interior else Exterior) (parity_by_missing rs p z hp hz c h)
above_kept (Geometry.MultiPolygon es) p z hp hz c h = ap (λ (t : Bool). if t then Interior else Exterior) (parity_by_missing (joined_rings es) p z hp hz c h)

-- ---- the triangle
-- a small triangle at the point misses all marks, so its points lie by the parity above them,
-- which no stretch from the point changes
pub triangle_of_off : (a b : Geometry) (p : Point) (l k : Location) → Each IsClosed (rings a) → Each IsClosed (rings b) → IsPoint p → OffAll (marks a b) p → above a p ≡ l → above b p ≡ k → HasTriangle (common a l b k)
triangle_of_off a b p l k ca cb hp h e f = go (box p (marks a b) hp h)
  where
    go : Corners p (marks a b) → HasTriangle (common a l b k)
    go c = record {
      p = p;
      q = c.q;
      r = c.r;
      p_is_point = hp;
      q_is_point = c.q_is_point;
      r_is_point = c.r_is_point;
      not_on_one_line = c.wide;
      within = λ s m n g. at s m n g (weighted_three_is_point s p m c.q n c.r hp c.q_is_point c.r_is_point g);
    }
      where
        misses_all : (s m n : ℕ) → 0 < s + m + n → Each (Misses p (weighted_three s p m c.q n c.r)) (edges_of_both a b)
        misses_all s m n g = each_left (Misses p (weighted_three s p m c.q n c.r)) (edges_of_both a b) (dots (listed a ++ listed b)) (misses_within p (marks a b) c s m n g)

        at : (s m n : ℕ) → 0 < s + m + n → IsPoint (weighted_three s p m c.q n c.r) → (locate a (weighted_three s p m c.q n c.r) ≡ l) × (locate b (weighted_three s p m c.q n c.r) ≡ k)
        at s m n g hz = (
          locate_off a (weighted_three s p m c.q n c.r) hz (off_first a b (weighted_three s p m c.q n c.r) hz (c.off s m n g))
              ∙ sym (above_kept a p (weighted_three s p m c.q n c.r) hp hz ca (each_left (Misses p (weighted_three s p m c.q n c.r)) (edges a) (edges b) (misses_all s m n g))) ∙ e,
          locate_off b (weighted_three s p m c.q n c.r) hz (off_second a b (weighted_three s p m c.q n c.r) hz (c.off s m n g))
              ∙ sym (above_kept b p (weighted_three s p m c.q n c.r) hp hz cb (each_right (Misses p (weighted_three s p m c.q n c.r)) (edges a) (edges b) (misses_all s m n g))) ∙ f,
        )
