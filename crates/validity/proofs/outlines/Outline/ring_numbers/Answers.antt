use Rattle.std.proofs.Common.{◌≡◌, ◌∙◌, ap, ℕ, length, map, sym, arith}
use Rattle.std.proofs.lemmas.List.{length-map}
use Rattle.geometry_model.specs.Geometries.{Geometry, elements}
use Rattle.geometry_model.specs.Validity.{numbered_elements}
use Rattle.geometry_model.specs.FirstFaults.{rings_end}
use Rattle.validity.proofs.OutlineFacts.{numbers_of, numbered_count}
use Rattle.validity.proofs.outlines.Outline.ring_numbers.Goals as goal

pub bounds-requires : goal.bounds-requires
bounds-requires c =
    let ends : c.as_slice.result.now ≡ map rings_end (numbered_elements c.args.self.now) = c.as_slice.ensures.value ∙ (c.self.invariant.rings_end ∙ ap (λ (g : Geometry). map rings_end (numbered_elements g)) c.self.view_is) in
    let count : length c.as_slice.result.now ≡ length (elements c.args.self.now) =
    ap (length {A = ℕ}) ends ∙ (length-map (numbered_elements c.args.self.now) rings_end ∙ numbered_count 0 (elements c.args.self.now)) in
    omega (arith, count, c.requires)

pub returns : goal.returns
returns c =
    let ends : c.as_slice.result.now ≡ map rings_end (numbered_elements c.args.self.now) = c.as_slice.ensures.value ∙ (c.self.invariant.rings_end ∙ ap (λ (g : Geometry). map rings_end (numbered_elements g)) c.self.view_is) in
    let k = numbers_of 0 (elements c.args.self.now) c.args.element c.bounds.result.1 (rw ends at c.bounds.ensures.end) in
    (k.0, k.1, k.2 ∙ sym (rw ends at c.bounds.ensures.start), k.3)
