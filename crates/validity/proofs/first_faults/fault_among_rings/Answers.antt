use Rattle.std.proofs.Common.{◌≡◌, ◌∙◌, ◌++◌, sym}
use Rattle.std.specs.List.{find}
use Rattle.std.proofs.lemmas.Result.{IfOk-weaker}
use Rattle.geometry_model.specs.FirstFaults.{has_fault}
use Rattle.validity.specs.FaultOrder.{rings_meeting, holes_outside, nested_holes}
use Rattle.validity.proofs.Finding.{first_stays, second_follows}
use Rattle.validity.proofs.first_faults.fault_among_rings.Goals as goal

pub returns-then-is_some : goal.returns-then-is_some
returns-then-is_some c =
    let g = c.args.outline.now in
    let some = sym c.is_some.ensures ∙ c.if-is_some.true in
    let two = first_stays (has_fault g) (rings_meeting g) (holes_outside g) c.in_ok-meeting.meeting c.in_ok-meeting.ensures some in
    sym (first_stays (has_fault g) (rings_meeting g ++ holes_outside g) (nested_holes g) c.in_ok-meeting.meeting (sym two) some)

pub returns-then-is_some-2 : goal.returns-then-is_some-2
returns-then-is_some-2 c =
    let g = c.args.outline.now in
    let two = second_follows (has_fault g) (rings_meeting g) (holes_outside g) c.in_ok-meeting.meeting c.in_ok-outside.outside c.in_ok-meeting.ensures (sym c.is_some.ensures ∙ c.if-is_some.false) c.in_ok-outside.ensures in
    sym (first_stays (has_fault g) (rings_meeting g ++ holes_outside g) (nested_holes g) c.in_ok-outside.outside (sym two) (sym c.is_some-2.ensures ∙ c.if-is_some-2.true))

pub returns : goal.returns
returns c =
    let g = c.args.outline.now in
    let two = second_follows (has_fault g) (rings_meeting g) (holes_outside g) c.in_ok-meeting.meeting c.in_ok-outside.outside c.in_ok-meeting.ensures (sym c.is_some.ensures ∙ c.if-is_some.false) c.in_ok-outside.ensures in
    IfOk-weaker c.fault_by-2.result (λ fault. fault ≡ find (has_fault g) (nested_holes g)) _
    (λ fault e. sym (second_follows (has_fault g) (rings_meeting g ++ holes_outside g) (nested_holes g) c.in_ok-outside.outside fault (sym two) (sym c.is_some-2.ensures ∙ c.if-is_some-2.false) e))
    c.fault_by-2.ensures
