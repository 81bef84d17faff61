use Rattle.std.proofs.Common.{◌≡◌, ◌∙◌, sym, ap, Some}
use Rattle.std.specs.List.{slice_get}
use Rattle.std.specs.Option.{option_copied}
use Rattle.geometry_model.specs.Geometries.{lines}
use Rattle.validity.proofs.PartFacts.{inside_ring_by_edges}
use Rattle.validity.proofs.outlines.Outline.is_inside_boxed.Goals as goal

pub returns-in-Some : goal.returns-in-Some
returns-in-Some c =
    let first : Some c.in-Some.at.now ≡ slice_get c.positions.result.now 0 = sym (ap option_copied c.in-Some.is) ∙ c.first.ensures.value in
    let position : slice_get c.line.result.now 0 ≡ Some c.in-Some.at.now = sym (rw c.positions.ensures.positions at first) in
    c.is_inside.ensures ∙ sym (inside_ring_by_edges (lines c.args.self.now) c.args.outer c.args.ring c.line_edges.result.now c.line.result.now c.in-Some.at.now c.line_edges.ensures c.line.ensures position)

pub is_inside-requires : goal.is_inside-requires
is_inside-requires c = c.requires.boxes c.line_edges.result.now c.line_edges.ensures
