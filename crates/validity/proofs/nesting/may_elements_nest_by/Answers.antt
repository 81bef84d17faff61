use Rattle.std.proofs.Common.{ap, length, arith}
use Rattle.geometry_model.specs.Geometries.{Geometry, elements}
use Rattle.validity.proofs.Rays.{element_spans_evenly, next_around, no_element_inside}
use Rattle.validity.proofs.nesting.may_elements_nest_by.Goals as goal

pub loop-other-init : goal.loop-other-init
loop-other-init c other within = absurd (omega (arith, within))

pub may_one_be_surrounded-requires : goal.may_one_be_surrounded-requires
may_one_be_surrounded-requires c = element_spans_evenly c.args.outline.now c.loop-other.other c.element_edges-edges.result.now
    c.requires c.element_edges-edges.ensures

pub loop-other-preserved : goal.loop-other-preserved
loop-other-preserved c = next_around c.args.outline.now c.loop-other.other c.element_edges-edges.result.now _
    c.element_edges-edges.ensures (ap (λ v. v.1) c.in_ok-firsts.ensures)
    c.loop-other.invariant (c.in_ok-may_one_be_surrounded.ensures c.if-branch.false)

pub returns : goal.returns
returns c none = no_element_inside c.args.outline.now c.loop-other.other
    (omega (
      arith,
      c.loop-other-test.false,
      c.element_count-other-end.ensures,
      ap (λ (g : Geometry). length (elements g)) c.geometry.ensures,
    ))
    c.loop-other.invariant
