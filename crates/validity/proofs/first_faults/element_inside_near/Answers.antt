use Rattle.std.proofs.Common.{◌∙◌, sym, ap, length}
use Rattle.geometry_model.specs.Geometries.{elements}
use Rattle.geometry_model.specs.declared.validity_faults.ValidityFault.TheVariants as validity
use Rattle.validity.specs.Neighbours.{first_near, element_envelopes}
use Rattle.validity.proofs.NearNumbers.{near_found, insides_near, elements_cover}
use Rattle.validity.proofs.first_faults.element_inside_near.Goals as goal

pub loop-other-init : goal.loop-other-init
loop-other-init c =
    near_found c.args.outline.now (validity.ElementInside c.args.element) 0 (length (elements c.args.outline.now)) _ (element_envelopes c.args.outline.now)
    (elements_cover c.args.outline.now) (insides_near c.args.outline.now c.args.element c.requires.closed c.requires.element)
    ∙ ap (first_near c.args.outline.now (validity.ElementInside c.args.element) 0 (length (elements c.args.outline.now))) (sym c.requires.near)
