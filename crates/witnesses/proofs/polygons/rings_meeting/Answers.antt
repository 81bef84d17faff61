use Rattle.witnesses.proofs.PlaceFacts.{if_none, meet_apart, meet_no_first, meet_no_second, meet_none, meet_place}
use Rattle.witnesses.proofs.polygons.rings_meeting.Goals as goal

pub returns-then-is_no_later_ring-clause-none : goal.returns-then-is_no_later_ring-clause-none
returns-then-is_no_later_ring-clause-none c f = let apart = meet_apart c.args.geometry.now c.args.number c.args.later c.in_ok-around.around.first c.in_ok-around.around.count c.in_ok-around.ensures.found f in c.is_no_later_ring.ensures.yes c.if-is_no_later_ring.true apart.0 apart.1

pub returns-in_err-first-clause-none : goal.returns-in_err-first-clause-none
returns-in_err-first-clause-none c = if_none c.from_residual-in_err-first.result _ (meet_no_first c.args.geometry.now c.args.number c.args.later c.in_err-first.ensures.none)

pub returns-in_err-second-clause-none : goal.returns-in_err-second-clause-none
returns-in_err-second-clause-none c = if_none c.from_residual-in_err-second.result _ (meet_no_second c.args.geometry.now c.args.number c.args.later c.in_err-second.ensures.none)

pub returns-in_err-meeting_place-clause-none : goal.returns-in_err-meeting_place-clause-none
returns-in_err-meeting_place-clause-none c = if_none c.from_residual-in_err-meeting_place.result _ (meet_none c.args.geometry.now c.args.number c.args.later c.in_ok-first.first.now c.in_ok-second.second.now c.in_ok-first.ensures.some c.in_ok-second.ensures.some c.in_err-meeting_place.ensures.none)

pub returns-clause-place : goal.returns-clause-place
returns-clause-place c = let apart = c.is_no_later_ring.ensures.no c.if-is_no_later_ring.false in
    meet_place c.args.geometry.now c.args.number c.args.later c.in_ok-around.around.first c.in_ok-around.around.count c.in_ok-first.first.now c.in_ok-second.second.now c.in_ok-meeting_place.field-0 c.in_ok-around.ensures.found apart.0 apart.1 c.in_ok-first.ensures.some c.in_ok-second.ensures.some c.in_ok-meeting_place.ensures.place
