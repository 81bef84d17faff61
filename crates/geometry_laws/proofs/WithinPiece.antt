-- Strictly within a piece the labels are constant, and so are those of its two sides.
use Rattle.std.proofs.Common.{ℤ, pos, ◌+ℤ◌, ◌-ℤ◌, ◌*ℤ◌, ◌≤ℤ◌, ◌<ℤ◌, int_lt, int_le, ◌≡◌, ◌⊎◌, inl, inr, Bool, true, false, ◌&&◌, if◌then◌else◌, refl, sym, ap, ap₂, ◌∙◌, List, [], ◌∷◌, count_by, flat_map, option_to_list, arith}
use borrow.Author.Differences.{ints}
use Rattle.std.specs.Ordering.{int_eq}
use Rattle.std.specs.declared.cmp.Ordering.TheVariants.{Less}
use Rattle.std.proofs.lemmas.Bool.{and_parts, or_left, or_right}
use Rattle.geometry_model.specs.Points.{Position, Point, IsPoint, point_at, compare}
use Rattle.geometry_model.specs.Geometries.{Edge, Geometry, edges, edges_of_lines, listed, rings, joined_rings}
use Rattle.geometry_model.specs.Sides.{side, on, on_one_line}
use Rattle.geometry_model.specs.Crossings.{exactly_one as xor, reaches as position_reaches, spans, side_rightward, strictly_above, at_or_above, odd, odd_above, odd_at_or_above}
use Rattle.geometry_model.specs.Dimensions.{area}
use Rattle.geometry_model.specs.Locations.{is_at, ends, on_some, in_points, in_lines, locate}
use Rattle.geometry_model.specs.Labels.{above, below, is_upright}
use Rattle.geometry_model.specs.CutPoints.IsCut.{AtEnd, Listed}
use Rattle.geometry_model.specs.Pieces.{Piece, IsPiece}
use Rattle.geometry_model.specs.declared.point_sets.Location.TheVariants.{Interior, Boundary, Exterior}
use Rattle.basics.proofs.Ring.{solve, var, lit, ◌⊕◌, ◌⊖◌, ◌⊗◌}
use Rattle.basics.proofs.Signs.{zero_product, three_ways, less_yes, less_no, at_most_yes, at_most_no}
use Rattle.basics.proofs.Tests.{equal_from, equal_yes, equal_no, not_equal_from}
use Rattle.basics.proofs.Bools.{by_contraries}
use Rattle.basics.proofs.Orders.{weak_positive, same_from_gap, zero_not_positive}
use Rattle.geometry_laws.specs.RingLaws.{IsClosed}
use Rattle.geometry_laws.specs.PieceLaws.{Inside}
use Rattle.geometry_laws.proofs.Plane.{right}
use Rattle.geometry_laws.proofs.Each.{Each, Among, each_of, same_any, none_passes, parity, odd_count, same_parity, parity_xor}
use Rattle.geometry_laws.proofs.LeftToRight.{reaches_means, not_reaches_means, right_trans_last}
use Rattle.geometry_laws.proofs.Identities.{right_turned}
use Rattle.geometry_laws.proofs.Hulls.{OnHull, on_from_hull, hull_from_on}
use Rattle.geometry_laws.proofs.RingParity.{side_is_area, reaches_is, position_is_point, Step, parity_by_steps, parity_of_rings, rightward_left, rightward_right}
use Rattle.geometry_laws.proofs.Locating.{all_ends_even}
use Rattle.geometry_laws.proofs.Triangles.{dot_coordinate}
use Rattle.geometry_laws.proofs.LineOrder.{up, Lex, lex_of_less, lex_weak, IsSum, on_sum, x_across, y_across, w_across, drop_area}
use Rattle.geometry_laws.proofs.Cuts.{Ends, contains_of_among, OneLine, one_line, off_within, rightward_on_line, step_within, same_on, Apart, apart, start_is_cut, end_is_cut, inside_on_line, hull_of_start, hull_of_end}

-- ---- what is at a point within
-- a listed position is a cut, so none is at a point strictly within a piece
pub no_position_within : (es : List Edge) (ps : List Position) (c : Piece) (h : IsPiece es ps c) (x : Point) → Inside es ps c h x → (a : Position) → Among a ps → is_at x a ≡ false
no_position_within es ps c h x i a m = by_contraries (is_at x a) false (λ k. absurd (h.neighbours x i.is_point i.is_on (Listed i.is_point a (contains_of_among a ps m) k) i.after i.before)) refl

-- and so is an end of an edge
no_end_within : (es : List Edge) (ps : List Position) (c : Piece) (h : IsPiece es ps c) (x : Point) → Inside es ps c h x → (g : Edge) → Among g es → (is_at x g.start ≡ false) × (is_at x g.end ≡ false)
no_end_within es ps c h x i g m = (
  by_contraries (is_at x g.start) false (λ k. absurd (h.neighbours x i.is_point i.is_on (AtEnd i.is_point g (contains_of_among g es m) (or_left (is_at x g.start) (is_at x g.end) k)) i.after i.before)) refl,
  by_contraries (is_at x g.end) false (λ k. absurd (h.neighbours x i.is_point i.is_on (AtEnd i.is_point g (contains_of_among g es m) (or_right (is_at x g.start) (is_at x g.end) k)) i.after i.before)) refl,
)

-- the edges and listed positions of a geometry are among all
pub record Belongs (es : List Edge) (ps : List Position) (g : Geometry) : Type 0 where
  pub edge : (e : Edge) → Among e (edges g) → Among e es
  pub position : (a : Position) → Among a (listed g) → Among a ps

-- ---- where two points within lie
-- so a point within a piece is exterior to point types
points_within : (es : List Edge) (ps : List Position) (c : Piece) (h : IsPiece es ps c) (x : Point) → Inside es ps c h x → (qs : List Position) → ((a : Position) → Among a qs → Among a ps) → in_points qs x ≡ Exterior
points_within es ps c h x i qs f = ap (λ (t : Bool). if t then Interior else Exterior) (none_passes (is_at x) qs (each_of (λ a. is_at x a ≡ false) qs (λ a m. no_position_within es ps c h x i a (f a m))))

-- lines and rings hold both points or neither, as each of their edges does
on_some_within : (es : List Edge) (ps : List Position) (c : Piece) (h : IsPiece es ps c) → Ends c → (x y : Point) → Inside es ps c h x → Inside es ps c h y → (ls : List (List Position)) → ((e : Edge) → Among e (edges_of_lines ls) → Among e es) → on_some ls x ≡ on_some ls y
on_some_within es ps c h d x y i j ls f = same_any (λ e. on e x) (λ e. on e y) (edges_of_lines ls) (each_of (λ e. on e x ≡ on e y) (edges_of_lines ls) (λ e m. same_on es ps c h d e x y (f e m) i j))

-- no end of an edge is at a point within, so the number of the lines' ends there is even
ends_within : (es : List Edge) (ps : List Position) (c : Piece) (h : IsPiece es ps c) (x : Point) → Inside es ps c h x → (ls : List (List Position)) → ((e : Edge) → Among e (edges_of_lines ls) → Among e es) → odd (count_by (is_at x) (flat_map ends ls)) ≡ false
ends_within es ps c h x i ls f = odd_count (is_at x) (flat_map ends ls) ∙ all_ends_even ls x (each_of (λ e. (is_at x e.start ≡ false) × (is_at x e.end ≡ false)) (edges_of_lines ls) (λ e m. no_end_within es ps c h x i e (f e m)))

-- so both points lie alike in lines
lines_within : (es : List Edge) (ps : List Position) (c : Piece) (h : IsPiece es ps c) → Ends c → (x y : Point) → Inside es ps c h x → Inside es ps c h y → (ls : List (List Position)) → ((e : Edge) → Among e (edges_of_lines ls) → Among e es) → in_lines ls x ≡ in_lines ls y
lines_within es ps c h d x y i j ls f = ap₂ (λ (s t : Bool). if s then Boundary else if t then Interior else Exterior) (ends_within es ps c h x i ls f ∙ sym (ends_within es ps c h y j ls f)) (on_some_within es ps c h d x y i j ls f)

-- from one point within to another each edge adds what its ends add, so the parity above is kept
pub odd_within : (es : List Edge) (ps : List Position) (c : Piece) (h : IsPiece es ps c) → Ends c → (x y : Point) → Inside es ps c h x → Inside es ps c h y → (rs : List (List Position)) → Each IsClosed rs → ((e : Edge) → Among e (edges_of_lines rs) → Among e es) → odd_above rs x ≡ odd_above rs y
odd_within es ps c h d x y i j rs k f = parity_by_steps rs x y k (each_of (Step x y) (edges_of_lines rs) (λ e m. step_within es ps c h d e x y (f e m) i j))

-- so two points within a piece lie alike in a geometry of closed rings whose edges and positions are among those cut
pub locate_within : (es : List Edge) (ps : List Position) (c : Piece) (h : IsPiece es ps c) → Ends c → (x y : Point) → Inside es ps c h x → Inside es ps c h y → (g : Geometry) → Each IsClosed (rings g) → Belongs es ps g → locate g x ≡ locate g y
locate_within es ps c h d x y i j (Geometry.Point o) k b = points_within es ps c h x i (option_to_list o) b.position ∙ sym (points_within es ps c h y j (option_to_list o) b.position)
locate_within es ps c h d x y i j (Geometry.MultiPoint qs) k b = points_within es ps c h x i qs b.position ∙ sym (points_within es ps c h y j qs b.position)
locate_within es ps c h d x y i j (Geometry.LineString l) k b = lines_within es ps c h d x y i j (l ∷ []) b.edge
locate_within es ps c h d x y i j (Geometry.MultiLineString ls) k b = lines_within es ps c h d x y i j ls b.edge
locate_within es ps c h d x y i j (Geometry.Polygon rs) k b = ap₂ (λ (s t : Bool). if s then Boundary else if t then Interior else Exterior) (on_some_within es ps c h d x y i j rs b.edge) (odd_within es ps c h d x y i j rs k b.edge)
locate_within es ps c h d x y i j (Geometry.MultiPolygon qs) k b = ap₂ (λ (s t : Bool). if s then Boundary else if t then Interior else Exterior) (on_some_within es ps c h d x y i j (joined_rings qs) b.edge) (odd_within es ps c h d x y i j (joined_rings qs) k b.edge)

-- ---- edges that go through the point
abbrev pub touches : Edge → Point → Bool
touches e p = spans e p && int_eq (side_rightward e p) (pos 0)

-- at most 0 is below 0 or equal to it, and not both
le_is : (s : ℤ) → int_le s (pos 0) ≡ xor (int_lt s (pos 0)) (int_eq s (pos 0))
le_is s = go (three_ways s (pos 0))
  where
    weak : s <ℤ pos 0 → s ≤ℤ pos 0
    weak h = omega (arith, ints)

    equal : s ≡ pos 0 → s ≤ℤ pos 0
    equal h = omega (arith, ints)

    equal_back : s ≡ pos 0 → pos 0 ≤ℤ s
    equal_back h = omega (arith, ints)

    weak_back : pos 0 <ℤ s → pos 0 ≤ℤ s
    weak_back h = omega (arith, ints)

    less_apart : s <ℤ pos 0 → s ≡ pos 0 → ⊥
    less_apart h k = omega (arith, ints)

    more_apart : pos 0 <ℤ s → s ≡ pos 0 → ⊥
    more_apart h k = omega (arith, ints)

    go : (s <ℤ pos 0) ⊎ ((s ≡ pos 0) ⊎ (pos 0 <ℤ s)) → int_le s (pos 0) ≡ xor (int_lt s (pos 0)) (int_eq s (pos 0))
    go (inl h) = at_most_yes s (pos 0) (weak h) ∙ sym (ap₂ xor (less_yes s (pos 0) h) (equal_no s (pos 0) (less_apart h)))
    go (inr (inl h)) = at_most_yes s (pos 0) (equal h) ∙ sym (ap₂ xor (less_no s (pos 0) (equal_back h)) (equal_yes s (pos 0) h))
    go (inr (inr h)) = at_most_no s (pos 0) h ∙ sym (ap₂ xor (less_no s (pos 0) (weak_back h)) (equal_no s (pos 0) (more_apart h)))

-- an edge is at or above a point where it is strictly above it or touches it, and not both
pub at_or_above_is : (e : Edge) (p : Point) → at_or_above e p ≡ xor (strictly_above e p) (touches e p)
at_or_above_is e p = ap (λ (t : Bool). spans e p && t) (le_is (side_rightward e p)) ∙ over (spans e p) (int_lt (side_rightward e p) (pos 0)) (int_eq (side_rightward e p) (pos 0))
  where
    over : (s a b : Bool) → s && xor a b ≡ xor (s && a) (s && b)
    over true a b = refl
    over false a b = refl

-- an edge that spans a point of its line goes through the point
sum_rightward : (u v x : Point) → pos 0 ≤ℤ right u x → pos 0 <ℤ right x v → pos 0 <ℤ right u v → area u v x ≡ pos 0 → IsSum u v x
sum_rightward u v x h k l a = record {
  k = right u v;
  m = right x v;
  n = right u x;
  from_k = l;
  from_m = weak_positive (right x v) k;
  from_n = h;
  x_is = x_across u v x;
  y_is = drop_area _ _ (area u v x) (y_across u v x) a;
  w_is = w_across u v x;
}

-- an edge that touches a point is on it: the point is between its ends, and on its line
pub on_from_touch : (g : Edge) (x : Point) → IsPoint x → touches g x ≡ true → on g x ≡ true
on_from_touch g x hx f = go (position_reaches g.start x) refl (position_reaches g.end x) refl (both.0)
  where
    both : (spans g x ≡ true) × (int_eq (side_rightward g x) (pos 0) ≡ true)
    both = and_parts (spans g x) (int_eq (side_rightward g x) (pos 0)) f

    flat : side_rightward g x ≡ pos 0
    flat = equal_from (side_rightward g x) (pos 0) ((and_parts (spans g x) (int_eq (side_rightward g x) (pos 0)) f).1)

    forth : position_reaches g.start x ≡ true → position_reaches g.end x ≡ false → on g x ≡ true
    forth s t = on_from_hull g x (on_sum g (point_at g.start) (point_at g.end) x (hull_of_start g) (hull_of_end g)
        (sum_rightward (point_at g.start) (point_at g.end) x
        (reaches_means (point_at g.start) x (sym (reaches_is g.start x) ∙ s))
        (not_reaches_means (point_at g.end) x (sym (reaches_is g.end x) ∙ t))
        (right_trans_last (point_at g.start) x (point_at g.end) (position_is_point g.start) hx (position_is_point g.end) (reaches_means (point_at g.start) x (sym (reaches_is g.start x) ∙ s)) (not_reaches_means (point_at g.end) x (sym (reaches_is g.end x) ∙ t)))
        (sym (side_is_area g.start g.end x) ∙ sym (rightward_left g x hx s t) ∙ flat)))

    back : position_reaches g.start x ≡ false → position_reaches g.end x ≡ true → on g x ≡ true
    back s t = on_from_hull g x (on_sum g (point_at g.end) (point_at g.start) x (hull_of_end g) (hull_of_start g)
        (sum_rightward (point_at g.end) (point_at g.start) x
        (reaches_means (point_at g.end) x (sym (reaches_is g.end x) ∙ t))
        (not_reaches_means (point_at g.start) x (sym (reaches_is g.start x) ∙ s))
        (right_trans_last (point_at g.end) x (point_at g.start) (position_is_point g.end) hx (position_is_point g.start) (reaches_means (point_at g.end) x (sym (reaches_is g.end x) ∙ t)) (not_reaches_means (point_at g.start) x (sym (reaches_is g.start x) ∙ s)))
        (sym (side_is_area g.end g.start x) ∙ sym (rightward_right g x hx s t) ∙ flat)))

    go : (a : Bool) → position_reaches g.start x ≡ a → (b : Bool) → position_reaches g.end x ≡ b → spans g x ≡ true → on g x ≡ true
    go true s true t k = absurd (let z : false ≡ true = sym (ap₂ xor s t) ∙ k in cc)
    go true s false t k = forth s t
    go false s true t k = back s t
    go false s false t k = absurd (let z : false ≡ true = sym (ap₂ xor s t) ∙ k in cc)

-- ---- on a line that isn't vertical a later point is to the right
-- between two points of a line the rise, times the line's breadth, is its height times the run, up to their sides
by_slope : (a b : Position) (p q : Point) → (b.x -ℤ a.x) *ℤ up p q ≡ (b.y -ℤ a.y) *ℤ right p q +ℤ (side a b q *ℤ p.W -ℤ side a b p *ℤ q.W)
by_slope a b p q = solve (a.x ∷ a.y ∷ b.x ∷ b.y ∷ p.X ∷ p.Y ∷ p.W ∷ q.X ∷ q.Y ∷ q.W ∷ [])
    ((var 2 ⊖ var 0) ⊗ (var 8 ⊗ var 6 ⊖ var 5 ⊗ var 9))
    ((var 3 ⊖ var 1) ⊗ (var 7 ⊗ var 6 ⊖ var 4 ⊗ var 9)
    ⊕ (((var 2 ⊖ var 0) ⊗ (var 8 ⊖ var 1 ⊗ var 9) ⊖ (var 3 ⊖ var 1) ⊗ (var 7 ⊖ var 0 ⊗ var 9)) ⊗ var 6
    ⊖ ((var 2 ⊖ var 0) ⊗ (var 5 ⊖ var 1 ⊗ var 6) ⊖ (var 3 ⊖ var 1) ⊗ (var 4 ⊖ var 0 ⊗ var 6)) ⊗ var 9)) tt

-- a later point straight above would make the line vertical
pub strictly_right : (a b : Position) (p q : Point) → (a.x ≡ b.x → ⊥) → side a b p ≡ pos 0 → side a b q ≡ pos 0 → compare p q ≡ Less → pos 0 <ℤ right p q
strictly_right a b p q f s t l = go (lex_of_less p q l)
  where
    level : right p q ≡ pos 0 → (b.x -ℤ a.x) *ℤ up p q ≡ pos 0
    level e = by_slope a b p q ∙ ap (λ (z : ℤ). (b.y -ℤ a.y) *ℤ z +ℤ (side a b q *ℤ p.W -ℤ side a b p *ℤ q.W)) e
        ∙ ap₂ (λ (y z : ℤ). (b.y -ℤ a.y) *ℤ pos 0 +ℤ (y *ℤ p.W -ℤ z *ℤ q.W)) t s
        ∙ solve (a.y ∷ b.y ∷ p.W ∷ q.W ∷ []) ((var 1 ⊖ var 0) ⊗ lit (pos 0) ⊕ (lit (pos 0) ⊗ var 2 ⊖ lit (pos 0) ⊗ var 3)) (lit (pos 0)) tt

    pick : (b.x -ℤ a.x ≡ pos 0) ⊎ (up p q ≡ pos 0) → up p q ≡ pos 0
    pick (inl e) = absurd (f (same_from_gap a.x b.x e))
    pick (inr e) = e

    go : Lex (right p q) (up p q) → pos 0 <ℤ right p q
    go (inl h) = h
    go (inr h) = absurd (zero_not_positive (up p q) (pick (zero_product (b.x -ℤ a.x) (up p q) (level h.0))) h.1)

-- the edge of a piece that isn't vertical isn't vertical
pub not_upright_edge : (es : List Edge) (ps : List Position) (c : Piece) (h : IsPiece es ps c) → Ends c → is_upright c ≡ false → h.edge.start.x ≡ h.edge.end.x → ⊥
not_upright_edge es ps c h d f e = not_equal_from (c.lesser.X *ℤ c.greater.W) (c.greater.X *ℤ c.lesser.W) f (cross (one c.lesser d.lesser h.lesser_on) (one c.greater d.greater h.greater_on))
  where
    coordinate : (p : Point) → OnHull h.edge p → h.edge.start.x *ℤ p.W ≡ p.X *ℤ pos 1
    coordinate p o = dot_coordinate o.k o.m o.n h.edge.start.x p.X p.W o.from_k (o.x_is ∙ ap (λ (z : ℤ). o.m *ℤ h.edge.start.x +ℤ o.n *ℤ z) (sym e)) o.w_is

    one : (p : Point) → IsPoint p → on h.edge p ≡ true → h.edge.start.x *ℤ p.W ≡ p.X *ℤ pos 1
    one p hp k = coordinate p (hull_from_on h.edge p hp k)

    turned : (x w v a : ℤ) → a *ℤ w ≡ x *ℤ pos 1 → x *ℤ v ≡ (a *ℤ w) *ℤ v
    turned x w v a e = ap (λ (z : ℤ). z *ℤ v) (solve (x ∷ []) (var 0) (var 0 ⊗ lit (pos 1)) tt ∙ sym e)

    cross : h.edge.start.x *ℤ c.lesser.W ≡ c.lesser.X *ℤ pos 1 → h.edge.start.x *ℤ c.greater.W ≡ c.greater.X *ℤ pos 1 → c.lesser.X *ℤ c.greater.W ≡ c.greater.X *ℤ c.lesser.W
    cross s t = turned c.lesser.X c.lesser.W c.greater.W h.edge.start.x s
        ∙ solve (h.edge.start.x ∷ c.lesser.W ∷ c.greater.W ∷ []) ((var 0 ⊗ var 1) ⊗ var 2) ((var 0 ⊗ var 2) ⊗ var 1) tt
        ∙ sym (turned c.greater.X c.greater.W c.lesser.W h.edge.start.x t)

-- ---- edges go through all points within the piece or none
-- a position isn't to the right of a point that is at least 0 to its own right
reaches_yes : (a : Position) (x : Point) → pos 0 ≤ℤ right (point_at a) x → position_reaches a x ≡ true
reaches_yes a x h = reaches_is a x ∙ at_most_yes (pos 0) (right (point_at a) x) h

-- and it is to the right of one that is to its left
reaches_no : (a : Position) (x : Point) → pos 0 <ℤ right x (point_at a) → position_reaches a x ≡ false
reaches_no a x h = reaches_is a x ∙ at_most_no (pos 0) (right (point_at a) x) (turned (right x (point_at a)) (right (point_at a) x) (right_turned x (point_at a)) h)
  where
    turned : (s t : ℤ) → t ≡ pos 0 -ℤ s → pos 0 <ℤ s → t <ℤ pos 0
    turned s t e h = omega (arith, ints)

-- an end of an edge on the line is to the right of both points within or of neither, being after both or before both
same_reach : (es : List Edge) (ps : List Position) (c : Piece) (h : IsPiece es ps c) → (h.edge.start.x ≡ h.edge.end.x → ⊥) → (a : Position) (x y : Point) → side h.edge.start h.edge.end (point_at a) ≡ pos 0 → Inside es ps c h x → Inside es ps c h y → Apart (point_at a) x y → position_reaches a x ≡ position_reaches a y
same_reach es ps c h f a x y s i j (inl k) = reaches_yes a x (lex_weak (right (point_at a) x) (up (point_at a) x) (lex_of_less (point_at a) x k.0)) ∙ sym (reaches_yes a y (lex_weak (right (point_at a) y) (up (point_at a) y) (lex_of_less (point_at a) y k.1)))
same_reach es ps c h f a x y s i j (inr k) = reaches_no a x (strictly_right h.edge.start h.edge.end x (point_at a) f (inside_on_line es ps c h x i) s k.0) ∙ sym (reaches_no a y (strictly_right h.edge.start h.edge.end y (point_at a) f (inside_on_line es ps c h y j) s k.1))

-- so an edge touches both or neither
pub same_touches : (es : List Edge) (ps : List Position) (c : Piece) (h : IsPiece es ps c) → Ends c → (h.edge.start.x ≡ h.edge.end.x → ⊥) → (g : Edge) (x y : Point) → Among g es → Inside es ps c h x → Inside es ps c h y → touches g x ≡ touches g y
same_touches es ps c h d f g x y a i j = decide (on_one_line h.edge g) refl
  where
    collinear : OneLine h.edge g → touches g x ≡ touches g y
    collinear o = ap₂ (λ (s t : Bool). s && t)
        (ap₂ xor
        (same_reach es ps c h f g.start x y o.start i j (apart es ps c h d (point_at g.start) (position_is_point g.start) o.start (start_is_cut es ps g a) x y i j))
        (same_reach es ps c h f g.end x y o.end i j (apart es ps c h d (point_at g.end) (position_is_point g.end) o.end (end_is_cut es ps g a) x y i j)))
        (ap (λ (z : ℤ). int_eq z (pos 0)) (rightward_on_line es ps c h d g x o i ∙ sym (rightward_on_line es ps c h d g y o j)))

    none : (z : Point) → Inside es ps c h z → on_one_line h.edge g ≡ false → touches g z ≡ false
    none z k e = by_contraries (touches g z) (on g z) (on_from_touch g z k.is_point) (off_within es ps c h g z a e k)

    decide : (t : Bool) → on_one_line h.edge g ≡ t → touches g x ≡ touches g y
    decide true e = collinear (one_line h.edge g e)
    decide false e = none x i e ∙ sym (none y j e)

-- ---- the sides
-- the parity at or above differs from the one strictly above by the parity of the edges that touch the point
pub parity_at_or_above : (rs : List (List Position)) (p : Point) → odd_at_or_above rs p ≡ xor (odd_above rs p) (parity (λ e. touches e p) (edges_of_lines rs))
parity_at_or_above rs p = odd_count (λ e. at_or_above e p) (edges_of_lines rs)
    ∙ same_parity (λ e. at_or_above e p) (λ e. xor (strictly_above e p) (touches e p)) (edges_of_lines rs) (each_of (λ e. at_or_above e p ≡ xor (strictly_above e p) (touches e p)) (edges_of_lines rs) (λ e m. at_or_above_is e p))
    ∙ parity_xor (λ e. strictly_above e p) (λ e. touches e p) (edges_of_lines rs)
    ∙ ap (λ (t : Bool). xor t (parity (λ e. touches e p) (edges_of_lines rs))) (sym (parity_of_rings rs p))

-- so within a piece that isn't vertical it is kept as well
pub odd_at_or_above_within : (es : List Edge) (ps : List Position) (c : Piece) (h : IsPiece es ps c) → Ends c → (h.edge.start.x ≡ h.edge.end.x → ⊥) → (x y : Point) → Inside es ps c h x → Inside es ps c h y → (rs : List (List Position)) → Each IsClosed rs → ((e : Edge) → Among e (edges_of_lines rs) → Among e es) → odd_at_or_above rs x ≡ odd_at_or_above rs y
odd_at_or_above_within es ps c h d s x y i j rs k f = parity_at_or_above rs x ∙ ap₂ xor (odd_within es ps c h d x y i j rs k f)
    (same_parity (λ e. touches e x) (λ e. touches e y) (edges_of_lines rs) (each_of (λ e. touches e x ≡ touches e y) (edges_of_lines rs) (λ e m. same_touches es ps c h d s e x y (f e m) i j))) ∙ sym (parity_at_or_above rs y)

-- what is just above is the same at all points within a piece
pub above_within : (es : List Edge) (ps : List Position) (c : Piece) (h : IsPiece es ps c) → Ends c → (x y : Point) → Inside es ps c h x → Inside es ps c h y → (g : Geometry) → Each IsClosed (rings g) → Belongs es ps g → above g x ≡ above g y
above_within es ps c h d x y i j (Geometry.Point o) k b = refl
above_within es ps c h d x y i j (Geometry.MultiPoint qs) k b = refl
above_within es ps c h d x y i j (Geometry.LineString l) k b = refl
above_within es ps c h d x y i j (Geometry.MultiLineString ls) k b = refl
above_within es ps c h d x y i j (Geometry.Polygon rs) k b = ap (λ (t : Bool). if t then Interior else Exterior) (odd_within es ps c h d x y i j rs k b.edge)
above_within es ps c h d x y i j (Geometry.MultiPolygon qs) k b = ap (λ (t : Bool). if t then Interior else Exterior) (odd_within es ps c h d x y i j (joined_rings qs) k b.edge)

-- and what is just below, where the piece isn't vertical
pub below_within : (es : List Edge) (ps : List Position) (c : Piece) (h : IsPiece es ps c) → Ends c → (h.edge.start.x ≡ h.edge.end.x → ⊥) → (x y : Point) → Inside es ps c h x → Inside es ps c h y → (g : Geometry) → Each IsClosed (rings g) → Belongs es ps g → below g x ≡ below g y
below_within es ps c h d s x y i j (Geometry.Point o) k b = refl
below_within es ps c h d s x y i j (Geometry.MultiPoint qs) k b = refl
below_within es ps c h d s x y i j (Geometry.LineString l) k b = refl
below_within es ps c h d s x y i j (Geometry.MultiLineString ls) k b = refl
below_within es ps c h d s x y i j (Geometry.Polygon rs) k b = ap (λ (t : Bool). if t then Interior else Exterior) (odd_at_or_above_within es ps c h d s x y i j rs k b.edge)
below_within es ps c h d s x y i j (Geometry.MultiPolygon qs) k b = ap (λ (t : Bool). if t then Interior else Exterior) (odd_at_or_above_within es ps c h d s x y i j (joined_rings qs) k b.edge)
