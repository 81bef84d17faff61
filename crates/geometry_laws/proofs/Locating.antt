-- Off the edges and listed positions of a geometry a point is interior or exterior by the parity of its rings alone.
use Rattle.std.proofs.Common.{ℤ, pos, ◌+ℤ◌, ◌*ℤ◌, ◌≡◌, Bool, true, false, if◌then◌else◌, refl, sym, ap, ap₂, ◌∙◌, List, [], ◌∷◌, flat_map, option_to_list, arith}
use borrow.Author.Differences.{ints}
use Rattle.geometry_model.specs.Points.{Position, Point, IsPoint, point_at}
use Rattle.geometry_model.specs.Geometries.{Edge, Geometry, edges, edges_of_line, edges_of_lines, listed, joined_rings}
use Rattle.geometry_model.specs.Sides.{on}
use Rattle.geometry_model.specs.Crossings.{exactly_one as xor, odd_above}
use Rattle.geometry_model.specs.Locations.{is_at, last_after, ends, in_points, in_lines, in_rings, locate}
use Rattle.geometry_model.specs.Labels.{above}
use Rattle.geometry_model.specs.declared.point_sets.Location.TheVariants.{Interior, Boundary, Exterior}
use Rattle.basics.proofs.Ring.{solve, var, lit, ◌⊕◌, ◌⊗◌}
use Rattle.basics.proofs.Bools.{by_contraries}
use Rattle.basics.proofs.Orders.{weak_positive}
use Rattle.geometry_laws.proofs.Each.{Each, each_map, none_passes, parity, odd_count, parity_append, each_left, each_right}
use Rattle.geometry_laws.proofs.Xor.{xor_self, xor_false}
use Rattle.geometry_laws.proofs.Scaling.{same_x, same_y}
use Rattle.geometry_laws.proofs.Hulls.{on_from_hull}

-- ---- an end of an edge is on it
at_start : (x w a b : ℤ) → a *ℤ w ≡ x *ℤ pos 1 → pos 1 *ℤ x ≡ w *ℤ a +ℤ pos 0 *ℤ b
at_start x w a b e = solve (x ∷ []) (lit (pos 1) ⊗ var 0) (var 0 ⊗ lit (pos 1)) tt ∙ sym e ∙ solve (a ∷ b ∷ w ∷ []) (var 0 ⊗ var 2) (var 2 ⊗ var 0 ⊕ lit (pos 0) ⊗ var 1) tt

at_end : (x w a b : ℤ) → b *ℤ w ≡ x *ℤ pos 1 → pos 1 *ℤ x ≡ pos 0 *ℤ a +ℤ w *ℤ b
at_end x w a b e = solve (x ∷ []) (lit (pos 1) ⊗ var 0) (var 0 ⊗ lit (pos 1)) tt ∙ sym e ∙ solve (a ∷ b ∷ w ∷ []) (var 1 ⊗ var 2) (lit (pos 0) ⊗ var 0 ⊕ var 2 ⊗ var 1) tt

-- the start is the sum of the ends with all weight on it
pub start_is_on : (e : Edge) (p : Point) → IsPoint p → is_at p e.start ≡ true → on e p ≡ true
start_is_on e p hp h = on_from_hull e p (record {
  k = pos 1;
  m = p.W;
  n = pos 0;
  from_k = omega (arith, ints);
  from_m = weak_positive p.W hp;
  from_n = omega (arith, ints);
  x_is = at_start p.X p.W e.start.x e.end.x (same_x (point_at e.start) p h);
  y_is = at_start p.Y p.W e.start.y e.end.y (same_y (point_at e.start) p h);
  w_is = no_weight p.W;
})
  where
    no_weight : (w : ℤ) → pos 1 *ℤ w ≡ w +ℤ pos 0
    no_weight w = omega (arith, ints)

-- and so is the end
pub end_is_on : (e : Edge) (p : Point) → IsPoint p → is_at p e.end ≡ true → on e p ≡ true
end_is_on e p hp h = on_from_hull e p (record {
  k = pos 1;
  m = pos 0;
  n = p.W;
  from_k = omega (arith, ints);
  from_m = omega (arith, ints);
  from_n = weak_positive p.W hp;
  x_is = at_end p.X p.W e.start.x e.end.x (same_x (point_at e.end) p h);
  y_is = at_end p.Y p.W e.start.y e.end.y (same_y (point_at e.end) p h);
  w_is = no_weight p.W;
})
  where
    no_weight : (w : ℤ) → pos 1 *ℤ w ≡ pos 0 +ℤ w
    no_weight w = omega (arith, ints)

-- a point off an edge isn't at its start
start_off : (e : Edge) (p : Point) → IsPoint p → on e p ≡ false → is_at p e.start ≡ false
start_off e p hp h = by_contraries (is_at p e.start) (on e p) (start_is_on e p hp) h

-- nor at its end
end_off : (e : Edge) (p : Point) → IsPoint p → on e p ≡ false → is_at p e.end ≡ false
end_off e p hp h = by_contraries (is_at p e.end) (on e p) (end_is_on e p hp) h

-- ---- off the edges of a line no odd number of ends is at the point
abbrev pub OffEdges : List Edge → Point → Type 0
OffEdges es p = Each (λ e. on e p ≡ false) es

-- no end of an edge is at the point
abbrev pub NoEnd : List Edge → Point → Type 0
NoEnd es p = Each (λ e. (is_at p e.start ≡ false) × (is_at p e.end ≡ false)) es

-- so a point off all edges is at no end of any
pub no_end_off : (es : List Edge) (p : Point) → IsPoint p → OffEdges es p → NoEnd es p
no_end_off es p hp h = each_map (λ e. on e p ≡ false) (λ e. (is_at p e.start ≡ false) × (is_at p e.end ≡ false)) es (λ e f. (start_off e p hp f, end_off e p hp f)) h

-- the last position of a line is the end of its last edge, so the point isn't there either
last_off : (a b : Position) (rest : List Position) (p : Point) → NoEnd (edges_of_line (a ∷ b ∷ rest)) p → is_at p (last_after b rest) ≡ false
last_off a b [] p h = (h.0).1
last_off a b (c ∷ rest) p h = last_off b c rest p h.1

-- neither end of a line is at the point, or both are, where the line is a single position
ends_even : (l : List Position) (p : Point) → NoEnd (edges_of_line l) p → parity (is_at p) (ends l) ≡ false
ends_even [] p h = refl
ends_even (a ∷ []) p h = ap (xor (is_at p a)) (xor_false (is_at p a)) ∙ xor_self (is_at p a)
ends_even (a ∷ b ∷ rest) p h = ap₂ xor ((h.0).0) (xor_false (is_at p (last_after b rest)) ∙ last_off a b rest p h)

-- off all edges no end of a line is there, so their number is even and the point isn't boundary
pub all_ends_even : (ls : List (List Position)) (p : Point) → NoEnd (edges_of_lines ls) p → parity (is_at p) (flat_map ends ls) ≡ false
all_ends_even [] p h = refl
all_ends_even (l ∷ ls) p h = parity_append (is_at p) (ends l) (flat_map ends ls) ∙ ap₂ xor
    (ends_even l p (each_left (λ e. (is_at p e.start ≡ false) × (is_at p e.end ≡ false)) (edges_of_line l) (edges_of_lines ls) h))
    (all_ends_even ls p (each_right (λ e. (is_at p e.start ≡ false) × (is_at p e.end ≡ false)) (edges_of_line l) (edges_of_lines ls) h))

-- ---- where it lies
pub record Off (g : Geometry) (p : Point) : Type 0 where
  pub edges_off : OffEdges (edges g) p
  pub listed_off : Each (λ a. is_at p a ≡ false) (listed g)

-- off the positions of a point type a point is exterior to it
points_off : (ps : List Position) (p : Point) → Each (λ a. is_at p a ≡ false) ps → in_points ps p ≡ Exterior
points_off ps p h = ap (λ (t : Bool). if t then Interior else Exterior) (none_passes (is_at p) ps h)

-- off the edges of lines a point is exterior: an even number of ends is there, and no edge
lines_off : (ls : List (List Position)) (p : Point) → IsPoint p → OffEdges (edges_of_lines ls) p → in_lines ls p ≡ Exterior
lines_off ls p hp h = ap₂ (λ (s t : Bool). if s then Boundary else if t then Interior else Exterior)
    (odd_count (is_at p) (flat_map ends ls) ∙ all_ends_even ls p (no_end_off (edges_of_lines ls) p hp h))
    (none_passes (λ e. on e p) (edges_of_lines ls) h)

-- off the rings of an area a point is interior or exterior by the parity above it
rings_off : (rs : List (List Position)) (p : Point) → OffEdges (edges_of_lines rs) p → in_rings rs p ≡ (if odd_above rs p then Interior else Exterior)
rings_off rs p h = ap (λ (s : Bool). if s then Boundary else if odd_above rs p then Interior else Exterior) (none_passes (λ e. on e p) (edges_of_lines rs) h)

-- off the edges and the listed positions only the parity of the rings above separates interior from exterior
pub locate_off : (g : Geometry) (p : Point) → IsPoint p → Off g p → locate g p ≡ above g p
locate_off (Geometry.Point o) p hp h = points_off (option_to_list o) p h.listed_off
locate_off (Geometry.MultiPoint ps) p hp h = points_off ps p h.listed_off
locate_off (Geometry.LineString l) p hp h = lines_off (l ∷ []) p hp h.edges_off
locate_off (Geometry.MultiLineString ls) p hp h = lines_off ls p hp h.edges_off
locate_off (Geometry.Polygon rs) p hp h = rings_off rs p h.edges_off
locate_off (Geometry.MultiPolygon es) p hp h = rings_off (joined_rings es) p h.edges_off
