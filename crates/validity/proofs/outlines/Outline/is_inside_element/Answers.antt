use Rattle.std.proofs.Common.{◌≡◌, ◌∙◌, sym, ap, Some}
use Rattle.std.specs.List.{slice_get}
use Rattle.geometry_model.specs.Geometries.{Geometry, elements}
use Rattle.validity.proofs.PartFacts.{inside_element_by_edges}
use Rattle.validity.proofs.outlines.Outline.is_inside_element.Goals as goal

pub returns-in-Some-first : goal.returns-in-Some-first
returns-in-Some-first c =
    let rings : slice_get (elements c.args.self.now) c.args.element ≡ Some c.element-rings.result.now = ap (λ (g : Geometry). slice_get (elements g) c.args.element) (sym c.geometry.ensures) ∙ c.element-rings.ensures in
    let first = c.in-Some-first.ensures.value in
    let position : slice_get c.in-Some.outer.now 0 ≡ Some c.in-Some-first.at.now = sym (rw c.positions.ensures.positions at first) in
    c.is_inside.ensures ∙ sym (inside_element_by_edges (elements c.args.self.now) c.args.element c.args.other c.element_edges.result.now c.element-rings.result.now c.in-Some.outer.now c.in-Some-first.at.now
    c.element_edges.ensures rings (sym c.in-Some.ensures.value) position)
