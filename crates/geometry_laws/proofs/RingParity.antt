-- Two points joined by a straight stretch that misses closed rings, or runs along their edges, are both inside the rings or both outside.
use Rattle.std.proofs.Common.{ℕ, ◌+◌, ◌<◌, ℤ, pos, ◌+ℤ◌, ◌-ℤ◌, ◌*ℤ◌, ◌≤ℤ◌, ◌<ℤ◌, int_lt, int_le, ◌≡◌, Bool, true, false, cond, not, ◌&&◌, if◌then◌else◌, refl, sym, ap, ap₂, ◌∙◌, List, [], ◌∷◌, negsuc, All, arith}
use borrow.Author.Differences.{ints}
use Rattle.geometry_model.specs.Points.{Position, Point, IsPoint, point_at}
use Rattle.geometry_model.specs.Geometries.{Edge, edges_of_line, edges_of_lines}
use Rattle.geometry_model.specs.Sides.{side}
use Rattle.geometry_model.specs.Crossings.{exactly_one as xor, reaches as position_reaches, side_rightward, strictly_above, odd_above}
use Rattle.geometry_model.specs.Dimensions.{area, weighted}
use Rattle.geometry_model.specs.Locations.{last_after}
use Rattle.basics.proofs.Ring.{solve, var, lit, ◌⊕◌, ◌⊖◌, ◌⊗◌}
use Rattle.basics.proofs.Signs.{same_at_most, cancel_positive, at_most_yes, at_most_no, at_most_from, not_at_most_from}
use Rattle.basics.proofs.Orders.{at_most_from_gap, less_weak, at_most_at_most, less_from_gap, weak_positive}
use Rattle.std.proofs.lemmas.List.Elements.{All-head, All-tail}
use Rattle.geometry_laws.specs.RingLaws.{IsClosed, Misses}
use Rattle.geometry_laws.proofs.Plane.{right, reaches, above, over, Meets}
use Rattle.geometry_laws.proofs.Xor.{xor_self, false_xor, xor_assoc, same_if_xor_false}
use Rattle.geometry_laws.proofs.EdgeLemma.{edge_lemma}
use Rattle.geometry_laws.proofs.LineSides.{side', side_turned}
use Rattle.geometry_laws.proofs.Hulls.{OnHull, on_from_hull, ordered}
use Rattle.geometry_laws.proofs.Each.{Each, each_map, parity, odd_count, same_parity, parity_append, parity_xor}

-- ---- the tests of edges are those of triples
-- the side of a point at a line is the area that it spans with the line's two positions
pub side_is_area : (a b : Position) (p : Point) → side a b p ≡ area (point_at a) (point_at b) p
side_is_area a b p = solve (a.x ∷ a.y ∷ b.x ∷ b.y ∷ p.X ∷ p.Y ∷ p.W ∷ []) side' (var 0 ⊗ (var 3 ⊗ var 6 ⊖ var 5 ⊗ lit (pos 1)) ⊖ var 1 ⊗ (var 2 ⊗ var 6 ⊖ var 4 ⊗ lit (pos 1)) ⊕ lit (pos 1) ⊗ (var 2 ⊗ var 5 ⊖ var 4 ⊗ var 3)) tt

-- a position isn't to the right of a point exactly where its triple isn't
pub reaches_is : (a : Position) (p : Point) → position_reaches a p ≡ reaches (point_at a) p
reaches_is a p = same_at_most (a.x *ℤ p.W) p.X (pos 0) (right (point_at a) p)
    (λ h. apart (a.x *ℤ p.W) p.X (p.X *ℤ pos 1 -ℤ a.x *ℤ p.W) (solve (a.x ∷ p.X ∷ p.W ∷ []) (var 1 ⊖ var 0 ⊗ var 2) (var 1 ⊗ lit (pos 1) ⊖ var 0 ⊗ var 2) tt) h)
    (λ h. joined (a.x *ℤ p.W) p.X (p.X *ℤ pos 1 -ℤ a.x *ℤ p.W) (solve (a.x ∷ p.X ∷ p.W ∷ []) (var 1 ⊖ var 0 ⊗ var 2) (var 1 ⊗ lit (pos 1) ⊖ var 0 ⊗ var 2) tt) h)
  where
    apart : (s t r : ℤ) → t -ℤ s ≡ r → s ≤ℤ t → pos 0 ≤ℤ r
    apart s t r e h = omega (arith, ints)

    joined : (s t r : ℤ) → t -ℤ s ≡ r → pos 0 ≤ℤ r → s ≤ℤ t
    joined s t r e h = omega (arith, ints)

-- where just one end isn't to the right of the point, that end is the left one
left_first : (a b : Position) (p : Point) → IsPoint p → position_reaches a p ≡ true → position_reaches b p ≡ false → int_le a.x b.x ≡ true
left_first a b p hp e f = at_most_yes a.x b.x (at_most_from_gap a.x b.x (ordered a.x b.x p.W hp (at_most_at_most (a.x *ℤ p.W) p.X (b.x *ℤ p.W) (at_most_from (a.x *ℤ p.W) p.X e) (less_weak p.X (b.x *ℤ p.W) (not_at_most_from (b.x *ℤ p.W) p.X f)))))

-- and where the first end alone is to the right of the point it is the right one
right_first : (a b : Position) (p : Point) → IsPoint p → position_reaches a p ≡ false → position_reaches b p ≡ true → int_le a.x b.x ≡ false
right_first a b p hp e f = at_most_no a.x b.x (less_from_gap b.x a.x (cancel_positive p.W (a.x -ℤ b.x) (weak_positive p.W hp) (apart (b.x *ℤ p.W) p.X (a.x *ℤ p.W) (p.W *ℤ (a.x -ℤ b.x)) (solve (a.x ∷ b.x ∷ p.W ∷ []) (var 0 ⊗ var 2 ⊖ var 1 ⊗ var 2) (var 2 ⊗ (var 0 ⊖ var 1)) tt) (at_most_from (b.x *ℤ p.W) p.X f) (not_at_most_from (a.x *ℤ p.W) p.X e))))
  where
    apart : (s t r d : ℤ) → r -ℤ s ≡ d → s ≤ℤ t → t <ℤ r → pos 0 <ℤ d
    apart s t r d e h k = omega (arith, ints)

-- so the side from left to right is that from start to end where the start is the left end
pub rightward_left : (e : Edge) (p : Point) → IsPoint p → position_reaches e.start p ≡ true → position_reaches e.end p ≡ false → side_rightward e p ≡ side e.start e.end p
rightward_left e p hp f g = ap (λ (t : Bool). if t then side e.start e.end p else side e.end e.start p) (left_first e.start e.end p hp f g)

-- and that from end to start where the end is
pub rightward_right : (e : Edge) (p : Point) → IsPoint p → position_reaches e.start p ≡ false → position_reaches e.end p ≡ true → side_rightward e p ≡ side e.end e.start p
rightward_right e p hp f g = ap (λ (t : Bool). if t then side e.start e.end p else side e.end e.start p) (right_first e.start e.end p hp f g)

-- the table of which ends are to the right of the point
above_by_reach : (a b : Bool) (s x y z : ℤ) → (a ≡ true → b ≡ false → s ≡ x) → (a ≡ false → b ≡ true → s ≡ y) → y ≡ pos 0 -ℤ x → x ≡ z
    → xor a b && int_lt s (pos 0) ≡ cond a (not b && int_lt z (pos 0)) (b && int_lt (pos 0) z)
above_by_reach true true s x y z f g e h = refl
above_by_reach false false s x y z f g e h = refl
above_by_reach true false s x y z f g e h = ap (λ (t : ℤ). int_lt t (pos 0)) (f refl refl ∙ h)
above_by_reach false true s x y z f g e h = ap (λ (t : ℤ). int_lt t (pos 0)) (g refl refl) ∙ turned x y z e h
  where
    turned : (x y z : ℤ) → y ≡ pos 0 -ℤ x → x ≡ z → int_lt y (pos 0) ≡ int_lt (pos 0) z
    turned x y z e h = grind (arith, ints)

-- so an edge is strictly above a point exactly where the test by the area with its ends says so
pub above_is : (e : Edge) (p : Point) → IsPoint p → strictly_above e p ≡ above (point_at e.start) (point_at e.end) p
above_is e p hp = above_by_reach (position_reaches e.start p) (position_reaches e.end p) (side_rightward e p) (side e.start e.end p) (side e.end e.start p) (area (point_at e.start) (point_at e.end) p)
    (rightward_left e p hp) (rightward_right e p hp) (side_turned e.start e.end p) (side_is_area e.start e.end p)
    ∙ ap₂ (λ (a b : Bool). cond a (not b && int_lt (area (point_at e.start) (point_at e.end) p) (pos 0)) (b && int_lt (pos 0) (area (point_at e.start) (point_at e.end) p))) (reaches_is e.start p) (reaches_is e.end p)

-- ---- a stretch that misses an edge doesn't meet it
pub record Natural (z : ℤ) : Type 0 where
  pub n : ℕ
  pub is : z ≡ pos n

pub natural : (z : ℤ) → pos 0 ≤ℤ z → Natural z
natural (pos n) h = record { n = n; is = refl }
natural (negsuc n) h = absurd (omega (arith, ints))

-- where stretch and edge met, a sum of the stretch's ends would be on the edge
misses_no_meeting : (p q : Point) (e : Edge) → Misses p q e → Meets (point_at e.start) (point_at e.end) p q → ⊥
misses_no_meeting p q e f c = go (natural c.m c.from_m) (natural c.n c.from_n)
  where
    some : (m n : ℕ) (x y : ℤ) → x ≡ pos m → y ≡ pos n → pos 0 <ℤ (x +ℤ y) → 0 < m + n
    some m n x y e f h = omega (arith, ints)

    one : (x s t : ℤ) → x ≡ s +ℤ t → pos 1 *ℤ x ≡ s +ℤ t
    one x s t e = omega (arith, ints)

    ones : (x s t : ℤ) → x ≡ s *ℤ pos 1 +ℤ t *ℤ pos 1 → pos 1 *ℤ x ≡ s +ℤ t
    ones x s t e = omega (arith, ints)

    hull : (m n : ℕ) → c.m ≡ pos m → c.n ≡ pos n → OnHull e (weighted m p n q)
    hull m n g h = record {
      k = pos 1;
      m = c.k;
      n = c.l;
      from_k = omega (arith, ints);
      from_m = c.from_k;
      from_n = c.from_l;
      x_is = one _ (c.k *ℤ e.start.x) (c.l *ℤ e.end.x) (ap₂ (λ (x y : ℤ). x *ℤ p.X +ℤ y *ℤ q.X) (sym g) (sym h) ∙ c.in_x);
      y_is = one _ (c.k *ℤ e.start.y) (c.l *ℤ e.end.y) (ap₂ (λ (x y : ℤ). x *ℤ p.Y +ℤ y *ℤ q.Y) (sym g) (sym h) ∙ c.in_y);
      w_is = ones _ c.k c.l (ap₂ (λ (x y : ℤ). x *ℤ p.W +ℤ y *ℤ q.W) (sym g) (sym h) ∙ c.in_w);
    }

    go : Natural c.m → Natural c.n → ⊥
    go a b = let r : true ≡ false = sym (on_from_hull e (weighted a.n p b.n q) (hull a.n b.n a.is b.is)) ∙ f a.n b.n (some a.n b.n c.m c.n a.is b.is c.some) in cc

-- ---- a step: what an edge adds on the way from p to q is what its ends add
abbrev pub over_position : Point → Point → Position → Bool
over_position p q a = over p q (point_at a)

abbrev pub Step : Point → Point → Edge → Type 0
Step p q e = xor (strictly_above e p) (strictly_above e q) ≡ xor (over_position p q e.start) (over_position p q e.end)

-- a position is a point with denominator 1
pub position_is_point : (a : Position) → IsPoint (point_at a)
position_is_point a = omega (arith, ints)

-- along a stretch that an edge misses, its being above changes exactly as its ends are passed
pub step_by_missing : (p q : Point) (e : Edge) → IsPoint p → IsPoint q → Misses p q e → Step p q e
step_by_missing p q e hp hq f = ap₂ xor (above_is e p hp) (above_is e q hq) ∙ edge_lemma (point_at e.start) (point_at e.end) p q (position_is_point e.start) (position_is_point e.end) hp hq (misses_no_meeting p q e f)

-- an end on the line of the stretch isn't over it
over_nothing : (a b : Bool) (z : ℤ) → z ≡ pos 0 → cond a (not b && int_lt z (pos 0)) (b && int_lt (pos 0) z) ≡ false
over_nothing a b z e = ap (λ (t : ℤ). cond a (not b && int_lt t (pos 0)) (b && int_lt (pos 0) t)) e ∙ none a b
  where
    none : (a b : Bool) → cond a (not b && false) (b && false) ≡ false
    none true true = refl
    none true false = refl
    none false true = refl
    none false false = refl

-- an edge along the stretch
pub step_along : (p q : Point) (e : Edge) → area p q (point_at e.start) ≡ pos 0 → area p q (point_at e.end) ≡ pos 0 → strictly_above e p ≡ strictly_above e q → Step p q e
step_along p q e f g h = ap (λ (b : Bool). xor b (strictly_above e q)) h ∙ xor_self (strictly_above e q) ∙ sym (ap₂ xor
    (over_nothing (reaches (point_at e.start) p) (reaches (point_at e.start) q) (area p q (point_at e.start)) f)
    (over_nothing (reaches (point_at e.end) p) (reaches (point_at e.end) q) (area p q (point_at e.end)) g) ∙ xor_self false)

-- ---- along a ring the ends cancel
-- along a line what the edges' ends add cancels, but for the first position and the last
path : (f : Position → Bool) (a : Position) (rest : List Position) → parity (λ (e : Edge). xor (f e.start) (f e.end)) (edges_of_line (a ∷ rest)) ≡ xor (f a) (f (last_after a rest))
path f a [] = sym (xor_self (f a))
path f a (b ∷ rest) = ap (xor (xor (f a) (f b))) (path f b rest) ∙ xor_assoc (f a) (f b) (xor (f b) (f (last_after b rest)))
    ∙ ap (xor (f a)) (sym (xor_assoc (f b) (f b) (f (last_after b rest))) ∙ ap (λ (t : Bool). xor t (f (last_after b rest))) (xor_self (f b)) ∙ false_xor (f (last_after b rest)))

-- around a closed ring all of it cancels
ring_cancels : (f : Position → Bool) (ring : List Position) → IsClosed ring → parity (λ (e : Edge). xor (f e.start) (f e.end)) (edges_of_line ring) ≡ false
ring_cancels f [] h = refl
ring_cancels f (a ∷ rest) h = path f a rest ∙ ap (λ (b : Position). xor (f a) (f b)) h ∙ xor_self (f a)

-- each position of a closed ring ends one edge and begins the next, so what is counted at the ends is even
pub rings_cancel : (f : Position → Bool) (rings : List (List Position)) → Each IsClosed rings → parity (λ (e : Edge). xor (f e.start) (f e.end)) (edges_of_lines rings) ≡ false
rings_cancel f [] h = refl
rings_cancel f (r ∷ rs) h = parity_append (λ (e : Edge). xor (f e.start) (f e.end)) (edges_of_line r) (edges_of_lines rs) ∙ ap₂ xor (ring_cancels f r h.0) (rings_cancel f rs h.1) ∙ xor_self false

-- the parity of the edges above a point is the exclusive or of the tests of single edges
pub parity_of_rings : (rings : List (List Position)) (p : Point) → odd_above rings p ≡ parity (λ e. strictly_above e p) (edges_of_lines rings)
parity_of_rings rings p = odd_count (λ e. strictly_above e p) (edges_of_lines rings)

-- steps along all edges leave the parity
pub parity_by_steps : (rings : List (List Position)) (p q : Point) → Each IsClosed rings → Each (Step p q) (edges_of_lines rings) → odd_above rings p ≡ odd_above rings q
parity_by_steps rings p q h s = parity_of_rings rings p ∙ same_if_xor_false _ _ (sym (parity_xor (λ e. strictly_above e p) (λ e. strictly_above e q) (edges_of_lines rings))
    ∙ same_parity (λ e. xor (strictly_above e p) (strictly_above e q)) (λ e. xor (over_position p q e.start) (over_position p q e.end)) (edges_of_lines rings) s
    ∙ rings_cancel (over_position p q) rings h) ∙ sym (parity_of_rings rings q)

-- a stretch that misses each edge of closed rings keeps the parity, since each edge adds what its ends add
pub parity_by_missing : (rings : List (List Position)) (p q : Point) → IsPoint p → IsPoint q → Each IsClosed rings → Each (Misses p q) (edges_of_lines rings) → odd_above rings p ≡ odd_above rings q
parity_by_missing rings p q hp hq h k = parity_by_steps rings p q h (each_map (Misses p q) (Step p q) (edges_of_lines rings) (λ e f. step_by_missing p q e hp hq f) k)

-- ---- facts of each element by place
pub each_from_all : {X : Type 0} (P : X → Type 0) (xs : List X) → All P xs → Each P xs
each_from_all P [] h = tt
each_from_all P (x ∷ xs) h = (All-head P x xs h, each_from_all P xs (All-tail P x xs h))

-- so the parity of closed rings above is the same at both ends of a stretch that misses them
pub parity_is_kept : (rings : List (List Position)) (p q : Point) → IsPoint p → IsPoint q → All IsClosed rings → All (Misses p q) (edges_of_lines rings) → odd_above rings p ≡ odd_above rings q
parity_is_kept rings p q hp hq h k = parity_by_missing rings p q hp hq (each_from_all IsClosed rings h) (each_from_all (Misses p q) (edges_of_lines rings) k)
