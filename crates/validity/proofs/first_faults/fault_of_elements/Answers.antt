use Rattle.std.proofs.Common.{◌<◌, sym, ap, length, arith}
use Rattle.geometry_model.specs.Geometries.{Geometry, elements}
use Rattle.validity.proofs.Few.{few_elements}
use Rattle.validity.proofs.first_faults.fault_of_elements.Goals as goal

pub returns-then-element_count-lt2 : goal.returns-then-element_count-lt2
returns-then-element_count-lt2 c =
    let few : length (elements c.args.outline.now) < 2 = omega (arith, c.element_count.ensures, c.if-element_count-lt2.true, ap (λ (g : Geometry). length (elements g)) c.geometry.ensures) in
    sym (few_elements c.args.outline.now few)
