use Rattle.std.proofs.Common.{◌∙◌, ◌++◌, ◌∷◌, [], sym, ap}
use Rattle.std.specs.List.{slice_get}
use Rattle.geometry_model.specs.Geometries.{Geometry, elements}
use Rattle.validity.specs.Rays.{first_of_element}
use Rattle.validity.proofs.Envelopes.{mapped_next}
use Rattle.validity.proofs.first_positions.FirstPositions.of_elements.Goals as goal

pub loop-element-preserved : goal.loop-element-preserved
loop-element-preserved c =
    mapped_next first_of_element (elements c.args.outline.now) c.loop-element.element c.element.result.now
    c.loop-element.positions.items c.push.new.self.items
    (ap (λ (g : Geometry). slice_get (elements g) c.loop-element.element) (sym c.geometry-in-loop-element.ensures)
    ∙ c.element.ensures) c.loop-element.invariant
    (c.in_ok-push.ensures.items ∙ ap (λ o. c.loop-element.positions.items ++ o ∷ []) c.first_of_element.ensures)
