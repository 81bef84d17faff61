use Rattle.std.proofs.Common.{sym, ◌∙◌}
use Rattle.witnesses.proofs.PartFacts.{no_first}
use Rattle.witnesses.proofs.PlaceFacts.{if_none, outside_first, outside_no_outer, outside_no_hole, outside_none, outside_place}
use Rattle.witnesses.proofs.polygons.hole_outside.Goals as goal

pub returns-then-around-number-clause-none : goal.returns-then-around-number-clause-none
returns-then-around-number-clause-none c = outside_first c.args.geometry.now c.args.number c.in_ok-around.around.first c.in_ok-around.around.count c.in_ok-around.ensures.found c.if-around-number.true

pub returns-in_err-outer-clause-none : goal.returns-in_err-outer-clause-none
returns-in_err-outer-clause-none c = if_none c.from_residual-in_err-outer.result _ (outside_no_outer c.args.geometry.now c.args.number c.in_ok-around.around.first c.in_ok-around.around.count c.in_ok-around.ensures.found c.in_err-outer.ensures.none)

pub returns-in_err-ring-clause-none : goal.returns-in_err-ring-clause-none
returns-in_err-ring-clause-none c = if_none c.from_residual-in_err-ring.result _ (outside_no_hole c.args.geometry.now c.args.number c.in_err-ring.ensures.none)

pub returns-in_err-at-clause-none : goal.returns-in_err-at-clause-none
returns-in_err-at-clause-none c = absurd (no_first c.in_ok-ring.field-0.now c.in_ok-ring.ensures.positions (sym c.in_err-at.ensures))

pub returns-then-is_inside_ring-clause-none : goal.returns-then-is_inside_ring-clause-none
returns-then-is_inside_ring-clause-none c = outside_none c.args.geometry.now c.args.number c.in_ok-around.around.first c.in_ok-around.around.count c.in_ok-outer.outer.now c.in_ok-ring.field-0.now c.in_ok-at.at c.in_ok-around.ensures.found c.in_ok-outer.ensures.some c.in_ok-ring.ensures.some
    (sym c.in_ok-at.ensures) (sym c.is_inside_ring.ensures ∙ c.if-is_inside_ring.true)

pub returns-else-is_inside_ring-clause-place : goal.returns-else-is_inside_ring-clause-place
returns-else-is_inside_ring-clause-place c = outside_place c.args.geometry.now c.args.number c.in_ok-around.around.first c.in_ok-around.around.count c.in_ok-outer.outer.now c.in_ok-ring.field-0.now c.in_ok-at.at c.in_ok-around.ensures.found c.if-around-number.false c.in_ok-outer.ensures.some c.in_ok-ring.ensures.some
    (sym c.in_ok-at.ensures) (sym c.is_inside_ring.ensures ∙ c.if-is_inside_ring.false)
