-- Each definition that takes a point gives the same at a triple and at its multiples.
use Rattle.std.proofs.Common.{ℤ, pos, ◌*ℤ◌, ◌<ℤ◌, int_lt, int_le, ◌≡◌, List, Bool, true, false, ◌&&◌, ◌||◌, if◌then◌else◌, ap, ap₂, ◌∙◌, [], ◌∷◌, count_by, flat_map, option_to_list}
use mathlib.Core.Path.{fun_ext}
use Rattle.std.specs.List.{list_any}
use Rattle.std.specs.Ordering.{int_cmp, ordering_then, is_eq}
use Rattle.geometry_model.specs.Points.{Position, Point, same_point, compare, point_at}
use Rattle.geometry_model.specs.Geometries.{Edge, Geometry, edges_of_lines, joined_rings}
use Rattle.geometry_model.specs.Sides.{side, on, between}
use Rattle.geometry_model.specs.Crossings.{exactly_one, reaches, spans, side_rightward, strictly_above, at_or_above, odd, odd_above, odd_at_or_above}
use Rattle.geometry_model.specs.Locations.{is_at, ends, on_some, in_points, in_lines, in_rings, locate}
use Rattle.geometry_model.specs.declared.point_sets.Location.TheVariants.{Interior, Boundary, Exterior}
use Rattle.basics.proofs.Ring.{solve, var, ◌⊖◌, ◌⊗◌, swap_factors}
use Rattle.basics.proofs.Quotients.{at_most_scaled}
use Rattle.basics.proofs.Tests.{cmp_scaled, negative_scaled, nonpositive_scaled, cmp_two_scaled}
use Rattle.basics.proofs.IntRing.{associates}
use Rattle.geometry_laws.specs.PointLaws.{Respects}
use Rattle.geometry_laws.proofs.Scaling.{scaled, by_scaling}
use Rattle.geometry_laws.proofs.LineSides.{side'}

-- ---- at a multiple
-- a multiple of the triple has that multiple of the side
side_scaled : (a b : Position) (k : ℤ) (p : Point) → side a b (scaled k p) ≡ k *ℤ side a b p
side_scaled a b k p = solve (a.x ∷ a.y ∷ b.x ∷ b.y ∷ p.X ∷ p.Y ∷ p.W ∷ k ∷ []) ((var 2 ⊖ var 0) ⊗ (var 7 ⊗ var 5 ⊖ var 1 ⊗ (var 7 ⊗ var 6)) ⊖ (var 3 ⊖ var 1) ⊗ (var 7 ⊗ var 4 ⊖ var 0 ⊗ (var 7 ⊗ var 6))) (var 7 ⊗ side') tt

-- k times a triple, k above 0, is returned as the triple: both numbers of each comparison are multiplied by k; here the order
compare_scaled : (r : Point) (k : ℤ) (p : Point) → pos 0 <ℤ k → compare (scaled k p) r ≡ compare p r
compare_scaled r k p h = ap₂ ordering_then
    (ap₂ int_cmp (associates k p.X r.W) (swap_factors r.X k p.W) ∙ cmp_two_scaled k (p.X *ℤ r.W) (r.X *ℤ p.W) h)
    (ap₂ int_cmp (associates k p.Y r.W) (swap_factors r.Y k p.W) ∙ cmp_two_scaled k (p.Y *ℤ r.W) (r.Y *ℤ p.W) h)

-- whether it is the same as another point
same_point_scaled : (r : Point) (k : ℤ) (p : Point) → pos 0 <ℤ k → same_point r (scaled k p) ≡ same_point r p
same_point_scaled r k p h = ap₂ (λ (x y : Bool). x && y)
    (ap is_eq (ap₂ int_cmp (swap_factors r.X k p.W) (associates k p.X r.W) ∙ cmp_two_scaled k (r.X *ℤ p.W) (p.X *ℤ r.W) h))
    (ap is_eq (ap₂ int_cmp (swap_factors r.Y k p.W) (associates k p.Y r.W) ∙ cmp_two_scaled k (r.Y *ℤ p.W) (p.Y *ℤ r.W) h))

-- on which side of a line it lies
side_cmp_scaled : (a b : Position) (k : ℤ) (p : Point) → pos 0 <ℤ k → int_cmp (side a b (scaled k p)) (pos 0) ≡ int_cmp (side a b p) (pos 0)
side_cmp_scaled a b k p h = ap (λ (z : ℤ). int_cmp z (pos 0)) (side_scaled a b k p) ∙ cmp_scaled k (side a b p) h

-- whether a coordinate of it lies between two numbers
between_scaled : (s t n w k : ℤ) → pos 0 <ℤ k → between s t (k *ℤ n) (k *ℤ w) ≡ between s t n w
between_scaled s t n w k h = ap₂ (λ (x y : Bool). x || y) (ap₂ (λ (x y : Bool). x && y) (low s) (high t)) (ap₂ (λ (x y : Bool). x && y) (low t) (high s))
  where
    low : (s : ℤ) → int_le (s *ℤ (k *ℤ w)) (k *ℤ n) ≡ int_le (s *ℤ w) n
    low s = ap (λ (z : ℤ). int_le z (k *ℤ n)) (swap_factors s k w) ∙ at_most_scaled k (s *ℤ w) n h

    high : (t : ℤ) → int_le (k *ℤ n) (t *ℤ (k *ℤ w)) ≡ int_le n (t *ℤ w)
    high t = ap (λ (z : ℤ). int_le (k *ℤ n) z) (swap_factors t k w) ∙ at_most_scaled k n (t *ℤ w) h

-- whether it is on an edge
on_scaled : (e : Edge) (k : ℤ) (p : Point) → pos 0 <ℤ k → on e (scaled k p) ≡ on e p
on_scaled e k p h = ap₂ (λ (x y : Bool). x && y)
    (ap₂ (λ (x y : Bool). x && y) (ap is_eq (side_cmp_scaled e.start e.end k p h)) (between_scaled e.start.x e.end.x p.X p.W k h))
    (between_scaled e.start.y e.end.y p.Y p.W k h)

-- whether a position isn't to the right of it
reaches_scaled : (a : Position) (k : ℤ) (p : Point) → pos 0 <ℤ k → reaches a (scaled k p) ≡ reaches a p
reaches_scaled a k p h = ap (λ (z : ℤ). int_le z (k *ℤ p.X)) (swap_factors a.x k p.W) ∙ at_most_scaled k (a.x *ℤ p.W) p.X h

-- whether an edge spans it
spans_scaled : (e : Edge) (k : ℤ) (p : Point) → pos 0 <ℤ k → spans e (scaled k p) ≡ spans e p
spans_scaled e k p h = ap₂ exactly_one (reaches_scaled e.start k p h) (reaches_scaled e.end k p h)

-- the side of an edge taken from left to right is multiplied as well
side_rightward_scaled : (e : Edge) (k : ℤ) (p : Point) → side_rightward e (scaled k p) ≡ k *ℤ side_rightward e p
side_rightward_scaled e k p = go (int_le e.start.x e.end.x)
  where
    go : (t : Bool) → (if t then side e.start e.end (scaled k p) else side e.end e.start (scaled k p)) ≡ k *ℤ (if t then side e.start e.end p else side e.end e.start p)
    go true = side_scaled e.start e.end k p
    go false = side_scaled e.end e.start k p

-- so whether an edge is strictly above it
strictly_above_scaled : (e : Edge) (k : ℤ) (p : Point) → pos 0 <ℤ k → strictly_above e (scaled k p) ≡ strictly_above e p
strictly_above_scaled e k p h = ap₂ (λ (x y : Bool). x && y) (spans_scaled e k p h) (ap (λ (z : ℤ). int_lt z (pos 0)) (side_rightward_scaled e k p) ∙ negative_scaled k (side_rightward e p) h)

-- and whether an edge is at or above it
at_or_above_scaled : (e : Edge) (k : ℤ) (p : Point) → pos 0 <ℤ k → at_or_above e (scaled k p) ≡ at_or_above e p
at_or_above_scaled e k p h = ap₂ (λ (x y : Bool). x && y) (spans_scaled e k p h) (ap (λ (z : ℤ). int_le z (pos 0)) (side_rightward_scaled e k p) ∙ nonpositive_scaled k (side_rightward e p) h)

-- ---- at any triple of the point
-- so the answers don't depend on the triple that stands for a point: its order against another
pub compare_respects : (r : Point) → Respects (λ p. compare p r)
compare_respects r = by_scaling (λ p. compare p r) (λ k p h. compare_scaled r k p h)

-- its side of a line
pub side_respects : (a b : Position) → Respects (λ p. int_cmp (side a b p) (pos 0))
side_respects a b = by_scaling (λ p. int_cmp (side a b p) (pos 0)) (λ k p h. side_cmp_scaled a b k p h)

-- whether it is on an edge
pub on_respects : (e : Edge) → Respects (on e)
on_respects e = by_scaling (on e) (λ k p h. on_scaled e k p h)

-- whether an edge spans it
pub spans_respects : (e : Edge) → Respects (spans e)
spans_respects e = by_scaling (spans e) (λ k p h. spans_scaled e k p h)

-- whether an edge is strictly above it
pub strictly_above_respects : (e : Edge) → Respects (strictly_above e)
strictly_above_respects e = by_scaling (strictly_above e) (λ k p h. strictly_above_scaled e k p h)

-- whether an edge is at or above it
pub at_or_above_respects : (e : Edge) → Respects (at_or_above e)
at_or_above_respects e = by_scaling (at_or_above e) (λ k p h. at_or_above_scaled e k p h)

-- the parity of the edges strictly above it, edge by edge
pub odd_above_respects : (rs : List (List Position)) → Respects (odd_above rs)
odd_above_respects rs p q hp hq h = ap (λ (f : Edge → Bool). odd (count_by f (edges_of_lines rs))) (fun_ext (λ e. strictly_above_respects e p q hp hq h))

-- the parity of the edges at or above it
pub odd_at_or_above_respects : (rs : List (List Position)) → Respects (odd_at_or_above rs)
odd_at_or_above_respects rs p q hp hq h = ap (λ (f : Edge → Bool). odd (count_by f (edges_of_lines rs))) (fun_ext (λ e. at_or_above_respects e p q hp hq h))

-- ---- where a point lies
-- whether it is at a position
is_at_respects : (a : Position) → Respects (λ p. is_at p a)
is_at_respects a = by_scaling (λ p. is_at p a) (λ k p h. same_point_scaled (point_at a) k p h)

applies_respects : Respects is_at
applies_respects p q hp hq h = fun_ext (λ a. is_at_respects a p q hp hq h)

-- whether it is on some edge of lines or rings
pub on_some_respects : (ls : List (List Position)) → Respects (on_some ls)
on_some_respects ls p q hp hq h = ap (λ (f : Edge → Bool). list_any f (edges_of_lines ls)) (fun_ext (λ e. on_respects e p q hp hq h))

-- so where it lies in point types
pub in_points_respects : (ps : List Position) → Respects (in_points ps)
in_points_respects ps p q hp hq h = ap (λ (f : Position → Bool). if list_any f ps then Interior else Exterior) (applies_respects p q hp hq h)

-- in lines, by the ends that are there and the edges that go through it
pub in_lines_respects : (ls : List (List Position)) → Respects (in_lines ls)
in_lines_respects ls p q hp hq h = ap₂ (λ (f : Position → Bool) (t : Bool). if odd (count_by f (flat_map ends ls)) then Boundary else if t then Interior else Exterior) (applies_respects p q hp hq h) (on_some_respects ls p q hp hq h)

-- in areas, by the edges that go through it and the parity above it
pub in_rings_respects : (rs : List (List Position)) → Respects (in_rings rs)
in_rings_respects rs p q hp hq h = ap₂ (λ (s t : Bool). if s then Boundary else if t then Interior else Exterior) (on_some_respects rs p q hp hq h) (odd_above_respects rs p q hp hq h)

-- so where a point lies in a geometry doesn't depend on its triple
pub locate_respects : (g : Geometry) → Respects (locate g)
locate_respects (Geometry.Point o) = in_points_respects (option_to_list o)
locate_respects (Geometry.MultiPoint ps) = in_points_respects ps
locate_respects (Geometry.LineString ps) = in_lines_respects (ps ∷ [])
locate_respects (Geometry.MultiLineString ls) = in_lines_respects ls
locate_respects (Geometry.Polygon rs) = in_rings_respects rs
locate_respects (Geometry.MultiPolygon es) = in_rings_respects (joined_rings es)
