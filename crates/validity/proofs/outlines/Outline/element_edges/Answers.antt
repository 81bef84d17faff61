use Rattle.std.proofs.Common.{◌≡◌, ◌∙◌, ap, ℕ, List, length, sym, arith}
use Rattle.std.specs.List.{flat_map}
use Rattle.std.proofs.lemmas.List.{length-map}
use Rattle.geometry_model.specs.Geometries.{Geometry, Edge, elements, edges_of_lines}
use Rattle.wkt.proofs.CutFacts.{cut_count}
use Rattle.validity.proofs.outlines.Outline.element_edges.Goals as goal

pub part-requires-clause-within : goal.part-requires-clause-within
part-requires-clause-within c =
    let items = flat_map (λ (run : List Edge). run) c.self.inside.runs in
    let count : length c.self.inside.element_ends.items ≡ length (elements c.args.self.now) =
    sym (cut_count 0 c.self.inside.element_ends.items items) ∙ (ap (length {A = List Edge}) c.self.invariant.by_element
    ∙ (length-map (elements c.self.inside.geometry) edges_of_lines ∙ ap (λ (g : Geometry). length (elements g)) c.self.view_is)) in
    let ends : length c.as_slice.result.now ≡ length c.self.inside.element_ends.items = ap (length {A = ℕ}) c.as_slice.ensures.value in
    omega (arith, count, ends, c.requires)
