use Rattle.std.proofs.Common.{◌∙◌, sym, ap, length, arith}
use Rattle.geometry_model.specs.Geometries as spec
use Rattle.geometry_model.specs.Geometries.{Geometry}
use Rattle.geometry_model.specs.FirstFaults.{has_fault}
use Rattle.validity.specs.FaultOrder.{of_polygon}
use Rattle.validity.proofs.Polygons.{found_in_polygon, passed_in_polygon, none_in_polygons}
use Rattle.validity.proofs.first_faults.fault_by.Goals as goal

pub returns-then-is_some : goal.returns-then-is_some
returns-then-is_some c = sym (c.loop-element.invariant ∙ found_in_polygon (has_fault c.args.outline.now) (of_polygon c.args.test) c.args.outline.now c.loop-element.element c.ring_numbers-first.result.0 c.ring_numbers-first.result.1
    c.in_ok-fault.fault c.ring_numbers-first.ensures c.in_ok-fault.ensures (sym c.is_some.ensures ∙ c.if-is_some.true))

pub loop-element-preserved : goal.loop-element-preserved
loop-element-preserved c = c.loop-element.invariant ∙ passed_in_polygon (has_fault c.args.outline.now) (of_polygon c.args.test) c.args.outline.now c.loop-element.element c.ring_numbers-first.result.0 c.ring_numbers-first.result.1
    c.in_ok-fault.fault c.ring_numbers-first.ensures c.in_ok-fault.ensures (sym c.is_some.ensures ∙ c.if-is_some.false)

pub returns : goal.returns
returns c = sym (c.loop-element.invariant ∙ none_in_polygons (has_fault c.args.outline.now) (of_polygon c.args.test) c.args.outline.now c.loop-element.element
    (omega (arith, c.loop-element-test.false, c.element_count-element-end.ensures, ap (λ (g : Geometry). length (spec.elements g)) c.geometry.ensures)))
