-- A point to the right of all edges and listed positions of a geometry is off it, and in its exterior.
use Rattle.std.proofs.Common.{ℤ, pos, ◌+ℤ◌, ◌-ℤ◌, ◌*ℤ◌, ◌≤ℤ◌, ◌<ℤ◌, int_lt, ◌≡◌, Bool, false, ◌&&◌, if◌then◌else◌, refl, ap, ap₂, subst, ◌∙◌, List, get_or, All, arith}
use borrow.Author.Differences.{ints}
use Rattle.geometry_model.specs.Points.{Position, Point, point_at}
use Rattle.geometry_model.specs.Geometries.{Edge, Geometry, edges, edges_of_lines, listed, joined_rings}
use Rattle.geometry_model.specs.Sides.{on}
use Rattle.geometry_model.specs.Crossings.{exactly_one, side_rightward, strictly_above}
use Rattle.geometry_model.specs.Locations.{is_at, locate}
use Rattle.geometry_model.specs.Labels.{above}
use Rattle.geometry_model.specs.declared.point_sets.Location.TheVariants.{Interior, Exterior}
use Rattle.basics.proofs.Signs.{at_most_yes}
use Rattle.basics.proofs.Bools.{by_contraries}
use Rattle.geometry_laws.specs.PieceLaws.{IsOff}
use Rattle.geometry_laws.proofs.Each.{Each, each_map, parity_none}
use Rattle.geometry_laws.proofs.RingParity.{parity_of_rings, each_from_all}
use Rattle.geometry_laws.proofs.Scaling.{same_x}
use Rattle.geometry_laws.proofs.Lines.{off_beyond}
use Rattle.geometry_laws.proofs.Locating.{locate_off}
use Rattle.geometry_laws.proofs.CoverTheorems.{all_from_each}
use Rattle.matrix_laws.specs.Witnessing.{IsFacePoint}
use Rattle.witnesses.specs.FarPoints.{Reaches}

-- the point of the x axis one step to the right of x
abbrev beyond : ℤ → Point
beyond x = record { X = x +ℤ pos 1; Y = pos 0; W = pos 1 }

Ends : ℤ → Edge → Type 0
Ends x e = (e.start.x ≤ℤ x) × (e.end.x ≤ℤ x)

-- it is off an edge that doesn't reach beyond x
off : (x : ℤ) (e : Edge) → Ends x e → on e (beyond x) ≡ false
unfolding Ends
off x e h = off_beyond (record { a = pos 1; b = pos 0; c = pos 0 -ℤ x }) e (beyond x) (omega (arith, ints)) (record { at_start = low x e.start.x e.start.y h.0; at_end = low x e.end.x e.end.y h.1 }) (here x)
  where
    low : (x a b : ℤ) → a ≤ℤ x → (pos 1 *ℤ a +ℤ pos 0 *ℤ b +ℤ (pos 0 -ℤ x) *ℤ pos 1) ≤ℤ pos 0
    low x a b h = omega (arith, ints)

    here : (x : ℤ) → pos 0 <ℤ (pos 1 *ℤ (x +ℤ pos 1) +ℤ pos 0 *ℤ pos 0 +ℤ (pos 0 -ℤ x) *ℤ pos 1)
    here x = omega (arith, ints)

-- and the edge isn't above it
not_above : (x : ℤ) (e : Edge) → Ends x e → strictly_above e (beyond x) ≡ false
unfolding Ends
not_above x e h = ap (λ (t : Bool). t && int_lt (side_rightward e (beyond x)) (pos 0)) (ap₂ exactly_one (at_most_yes (e.start.x *ℤ pos 1) (x +ℤ pos 1) (within x e.start.x h.0)) (at_most_yes (e.end.x *ℤ pos 1) (x +ℤ pos 1) (within x e.end.x h.1)))
  where
    within : (x a : ℤ) → a ≤ℤ x → (a *ℤ pos 1) ≤ℤ (x +ℤ pos 1)
    within x a h = omega (arith, ints)

-- nor is it at a position that doesn't reach beyond x
away : (x : ℤ) (a : Position) → a.x ≤ℤ x → is_at (beyond x) a ≡ false
away x a h = by_contraries (is_at (beyond x) a) false (λ k. absurd (clash x a.x h (same_x (point_at a) (beyond x) k))) refl
  where
    clash : (x a : ℤ) → a ≤ℤ x → a *ℤ pos 1 ≡ (x +ℤ pos 1) *ℤ pos 1 → ⊥
    clash x a h e = omega (arith, ints)

-- where no edge is above a point, above it is the exterior
none_above : (g : Geometry) (z : Point) → Each (λ e. strictly_above e z ≡ false) (edges g) → above g z ≡ Exterior
none_above (Geometry.Point o) z h = refl
none_above (Geometry.MultiPoint qs) z h = refl
none_above (Geometry.LineString l) z h = refl
none_above (Geometry.MultiLineString ls) z h = refl
none_above (Geometry.Polygon rs) z h = ap (λ (t : Bool). if t then Interior else Exterior) (parity_of_rings rs z ∙ parity_none (λ e. strictly_above e z) (edges_of_lines rs) h)
none_above (Geometry.MultiPolygon es) z h = ap (λ (t : Bool). if t then Interior else Exterior) (parity_of_rings (joined_rings es) z ∙ parity_none (λ e. strictly_above e z) (edges_of_lines (joined_rings es)) h)

ends_of : (x : ℤ) (g : Geometry) → Reaches x g → Each (Ends x) (edges g)
unfolding Ends
ends_of x g r = each_from_all (λ e. (e.start.x ≤ℤ x) × (e.end.x ≤ℤ x)) (edges g) r.edges

is_off : (x : ℤ) (g : Geometry) → Reaches x g → IsOff g (beyond x)
is_off x g r = record {
  edges = all_from_each (λ e. on e (beyond x) ≡ false) (edges g) (each_map (Ends x) (λ e. on e (beyond x) ≡ false) (edges g) (off x) (ends_of x g r));
  positions = all_from_each (λ a. is_at (beyond x) a ≡ false) (listed g) (each_map (λ a. a.x ≤ℤ x) (λ a. is_at (beyond x) a ≡ false) (listed g) (away x) (each_from_all (λ a. a.x ≤ℤ x) (listed g) r.positions));
}

is_exterior : (x : ℤ) (g : Geometry) → Reaches x g → locate g (beyond x) ≡ Exterior
is_exterior x g r = locate_off g (beyond x) (omega (arith, ints)) (record {
  edges_off = each_map (Ends x) (λ e. on e (beyond x) ≡ false) (edges g) (off x) (ends_of x g r);
  listed_off = each_map (λ a. a.x ≤ℤ x) (λ a. is_at (beyond x) a ≡ false) (listed g) (away x) (each_from_all (λ a. a.x ≤ℤ x) (listed g) r.positions);
}) ∙ none_above g (beyond x) (each_map (Ends x) (λ e. strictly_above e (beyond x) ≡ false) (edges g) (not_above x) (ends_of x g r))

pub reaches_further : (x y : ℤ) (g : Geometry) → x ≤ℤ y → Reaches x g → Reaches y g
reaches_further x y g h r = record {
  edges = λ k d l. let e : (get_or (edges g) k d).start.x ≤ℤ x × (get_or (edges g) k d).end.x ≤ℤ x = r.edges k d l in (through _ e.0, through _ e.1);
  positions = λ k d l. through _ (r.positions k d l);
}
  where
    through : (a : ℤ) → a ≤ℤ x → a ≤ℤ y
    through a k = omega (arith, ints, h)

pub far_face : (a b : Geometry) (x : ℤ) (m : Point) → Reaches x a → Reaches x b → m ≡ record { X = x +ℤ pos 1; Y = pos 0; W = pos 1 } → IsFacePoint a Exterior b Exterior m
far_face a b x m ra rb e = rw e (record { is_point = omega (arith, ints); within = (is_exterior x a ra, is_exterior x b rb); off_first = is_off x a ra; off_second = is_off x b rb })

-- what the edges and the positions don't reach beyond, the geometry doesn't
pub reaches_both : (passed final final' : ℤ) (g : Geometry) (es : List Edge) (ps : List Position) → es ≡ edges g → ps ≡ listed g → All (λ e. (e.start.x ≤ℤ passed) × (e.end.x ≤ℤ passed)) es → All (λ a. a.x ≤ℤ final) ps → passed ≤ℤ final → final' ≡ final → Reaches final' g
reaches_both passed final final' g es ps he hp h k l e = rw e (record {
  edges = subst (λ (fs : List Edge). All (λ f. (f.start.x ≤ℤ final) × (f.end.x ≤ℤ final)) fs) he (λ i d m. let b : ((get_or es i d).start.x ≤ℤ passed) × ((get_or es i d).end.x ≤ℤ passed) = h i d m in (through _ b.0, through _ b.1));
  positions = subst (λ (qs : List Position). All (λ a. a.x ≤ℤ final) qs) hp k;
})
  where
    through : (a : ℤ) → a ≤ℤ passed → a ≤ℤ final
    through a m = omega (arith, ints, l)
