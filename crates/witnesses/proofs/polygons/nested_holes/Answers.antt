use Rattle.std.proofs.Common.{inl, inr}
use Rattle.witnesses.proofs.PlaceFacts.{if_none, nested_first, nested_apart, nested_no_first, nested_no_second, nested_none, nested_place}
use Rattle.witnesses.proofs.polygons.nested_holes.Goals as goal

pub returns-then-around-number-clause-none : goal.returns-then-around-number-clause-none
returns-then-around-number-clause-none c = nested_first c.args.geometry.now c.args.number c.args.later c.in_ok-around.around.first c.in_ok-around.around.count c.in_ok-around.ensures.found c.if-around-number.true

pub returns-then-is_no_later_ring-clause-none : goal.returns-then-is_no_later_ring-clause-none
returns-then-is_no_later_ring-clause-none c f = let apart = nested_apart c.args.geometry.now c.args.number c.args.later c.in_ok-around.around.first c.in_ok-around.around.count c.in_ok-around.ensures.found f in c.is_no_later_ring.ensures.yes c.if-is_no_later_ring.true apart.0 apart.1

pub returns-in_err-first-clause-none : goal.returns-in_err-first-clause-none
returns-in_err-first-clause-none c = if_none c.from_residual-in_err-first.result _ (nested_no_first c.args.geometry.now c.args.number c.args.later c.in_err-first.ensures.none)

pub returns-in_err-second-clause-none : goal.returns-in_err-second-clause-none
returns-in_err-second-clause-none c = if_none c.from_residual-in_err-second.result _ (nested_no_second c.args.geometry.now c.args.number c.args.later c.in_err-second.ensures.none)

pub returns-in_err-position_inside-in-None-clause-none : goal.returns-in_err-position_inside-in-None-clause-none
returns-in_err-position_inside-in-None-clause-none c = if_none c.from_residual-in_err-position_inside-in-None.result _ (nested_none c.args.geometry.now c.args.number c.args.later c.in_ok-first.first.now c.in_ok-second.second.now c.in_ok-first.ensures.some c.in_ok-second.ensures.some c.in-None.ensures.none c.in_err-position_inside-in-None.ensures.none)

pub returns-in-Some-clause-place : goal.returns-in-Some-clause-place
returns-in-Some-clause-place c = let apart = c.is_no_later_ring.ensures.no c.if-is_no_later_ring.false in
    nested_place c.args.geometry.now c.args.number c.args.later c.in_ok-around.around.first c.in_ok-around.around.count c.in_ok-first.first.now c.in_ok-second.second.now c.in-Some.at c.in_ok-around.ensures.found apart.0 apart.1 c.if-around-number.false c.in_ok-first.ensures.some c.in_ok-second.ensures.some (inl c.in-Some.ensures.inside)

pub returns-in_ok-position_inside-in-None-clause-place : goal.returns-in_ok-position_inside-in-None-clause-place
returns-in_ok-position_inside-in-None-clause-place c = let apart = c.is_no_later_ring.ensures.no c.if-is_no_later_ring.false in
    nested_place c.args.geometry.now c.args.number c.args.later c.in_ok-around.around.first c.in_ok-around.around.count c.in_ok-first.first.now c.in_ok-second.second.now c.in_ok-position_inside-in-None.field-0 c.in_ok-around.ensures.found apart.0 apart.1 c.if-around-number.false c.in_ok-first.ensures.some c.in_ok-second.ensures.some (inr c.in_ok-position_inside-in-None.ensures.inside)
