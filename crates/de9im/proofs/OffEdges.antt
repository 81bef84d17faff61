-- Where a point off a geometry's edges lies.
use Rattle.std.proofs.Common.{◌≡◌, Bool, true, false, if◌then◌else◌, refl, sym, ap, ap₂, ◌∙◌}
use Rattle.std.proofs.lemmas.Bool.{false≢true}
use Rattle.geometry_model.specs.Points.{Point}
use Rattle.geometry_model.specs.Geometries.{Geometry, kind, edges, joined_rings}
use Rattle.geometry_model.specs.Sides.{on}
use Rattle.geometry_model.specs.Crossings.{odd_above}
use Rattle.geometry_model.specs.Locations.{on_some}
use Rattle.geometry_model.specs.declared.shapes.Kind.{Kind}
use Rattle.geometry_model.specs.declared.point_sets.Location.{Location}
use Rattle.geometry_model.specs.declared.point_sets.Location.TheVariants.{Interior, Boundary, Exterior}
use Rattle.geometry_laws.proofs.Each.{none_passed, none_passes}
use Rattle.geometry_laws.proofs.RingParity.{each_from_all}
use Rattle.geometry_laws.proofs.CoverTheorems.{all_from_each}
use Rattle.edge_boxes.specs.EdgeCrossings.{AreCrossings, on_any, is_odd_above}
use Rattle.edge_boxes.specs.declared.point_crossings.Crossings.{Crossings}
use Rattle.matrix_laws.specs.Gaps.{mostly}
use Rattle.matrix_laws.specs.Covering.{IsOffEdges}
use Rattle.de9im.specs.Raising.{off_edges}

on_not_off : (g : Geometry) (x : Point) → on_any (edges g) x ≡ true → IsOffEdges g x → ⊥
on_not_off g x h off = false≢true (sym (none_passes (λ e. on e x) (edges g) (each_from_all (λ e. on e x ≡ false) (edges g) off)) ∙ h)

off_from : (g : Geometry) (x : Point) → on_any (edges g) x ≡ false → IsOffEdges g x
off_from g x h = all_from_each (λ e. on e x ≡ false) (edges g) (none_passed (λ e. on e x) (edges g) h)

exterior_if : (s : Bool) → s ≡ false → Exterior ≡ (if s then Interior else Exterior)
exterior_if s e = sym (ap (λ (t : Bool). if t then Interior else Exterior) e)

inside_if : (s t : Bool) → s ≡ false → (if t then Interior else Exterior) ≡ (if s then Boundary else if t then Interior else Exterior)
inside_if s t e = sym (ap (λ (u : Bool). if u then Boundary else if t then Interior else Exterior) e)

off_is_mostly : (g : Geometry) (x : Point) → on_any (edges g) x ≡ false → off_edges (kind g) (is_odd_above (edges g) x) ≡ mostly g x
off_is_mostly (Geometry.Point o) x h = refl
off_is_mostly (Geometry.MultiPoint ps) x h = refl
off_is_mostly (Geometry.LineString l) x h = exterior_if (on_any (edges (Geometry.LineString l)) x) h
off_is_mostly (Geometry.MultiLineString ls) x h = exterior_if (on_some ls x) h
off_is_mostly (Geometry.Polygon rs) x h = inside_if (on_some rs x) (odd_above rs x) h
off_is_mostly (Geometry.MultiPolygon es) x h = inside_if (on_some (joined_rings es) x) (odd_above (joined_rings es) x) h

-- ---- by how the point lies to the edges
pub shown_on : (g : Geometry) (x : Point) (c : Crossings) → AreCrossings c (edges g) x → c.on ≡ true → IsOffEdges g x → ⊥
shown_on g x c h e = on_not_off g x (sym h.on ∙ e)

pub shown_off : (g : Geometry) (x : Point) (c : Crossings) (k : Kind) (l : Location) → AreCrossings c (edges g) x → c.on ≡ false → k ≡ kind g → l ≡ off_edges k c.odd_above → IsOffEdges g x × (l ≡ mostly g x)
shown_off g x c k l h e ek el = (off_from g x (sym h.on ∙ e), el ∙ ap₂ off_edges ek h.above ∙ off_is_mostly g x (sym h.on ∙ e))

-- a point that is on no edge lies where the parity of the edges above it says
pub off_part : (g : Geometry) (x : Point) (c : Crossings) (k : Kind) (l : Location) → IsOffEdges g x → AreCrossings c (edges g)
    x → k ≡ kind g → l ≡ off_edges k c.odd_above → l ≡ mostly g x
off_part g x c k l off h ek el = el ∙ ap₂ off_edges ek h.above
    ∙ off_is_mostly g x (none_passes (λ e. on e x) (edges g) (each_from_all (λ e. on e x ≡ false) (edges g) off))
