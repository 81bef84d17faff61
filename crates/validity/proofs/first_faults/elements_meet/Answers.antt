use Rattle.std.proofs.Common.{◌∙◌, sym, ap, ◌+◌, length, map, arith}
use Rattle.geometry_model.specs.Geometries as spec
use Rattle.geometry_model.specs.FirstFaults.{has_fault, numbers}
use Rattle.geometry_model.specs.declared.validity_faults.ValidityFault.TheVariants as validity
use Rattle.validity.proofs.Finding.{first_among, further_among}
use Rattle.validity.proofs.first_faults.elements_meet.Goals as goal

pub returns-then-is_some : goal.returns-then-is_some
returns-then-is_some c = sym (c.loop-element.invariant ∙ first_among (has_fault c.args.outline.now) (λ i. map (validity.ElementsMeet i) (numbers (i + 1) (length (spec.elements c.args.outline.now)))) c.loop-element.element (length (spec.elements c.args.outline.now)) c.in_ok-fault.fault (omega (arith, c.loop-element-test.true, c.element_count-element-end.ensures, ap (λ g. length (spec.elements g)) c.geometry.ensures)) c.in_ok-fault.ensures (sym c.is_some.ensures ∙ c.if-is_some.true))

pub loop-element-preserved : goal.loop-element-preserved
loop-element-preserved c = c.loop-element.invariant ∙ further_among (has_fault c.args.outline.now) (λ i. map (validity.ElementsMeet i) (numbers (i + 1) (length (spec.elements c.args.outline.now)))) c.loop-element.element (length (spec.elements c.args.outline.now)) c.in_ok-fault.fault (omega (arith, c.loop-element-test.true, c.element_count-element-end.ensures, ap (λ g. length (spec.elements g)) c.geometry.ensures)) c.in_ok-fault.ensures (sym c.is_some.ensures ∙ c.if-is_some.false)
