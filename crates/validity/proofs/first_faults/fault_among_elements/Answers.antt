use Rattle.std.proofs.Common.{◌≡◌, ◌∙◌, sym}
use Rattle.std.specs.List.{find}
use Rattle.std.proofs.lemmas.Result.{IfOk-weaker}
use Rattle.geometry_model.specs.FirstFaults.{has_fault}
use Rattle.geometry_model.specs.declared.validity_faults.ValidityFault.TheVariants as validity
use Rattle.validity.specs.FaultOrder.{of_two_elements, of_other_elements}
use Rattle.validity.proofs.Finding.{first_stays, second_follows}
use Rattle.validity.proofs.first_faults.fault_among_elements.Goals as goal

pub returns-then-is_some : goal.returns-then-is_some
returns-then-is_some c =
    let g = c.args.outline.now in
    sym (first_stays (has_fault g) (of_two_elements validity.ElementsMeet g) (of_other_elements validity.ElementInside g)
    c.in_ok-meeting.meeting c.in_ok-meeting.ensures (sym c.is_some.ensures ∙ c.if-is_some.true))

pub returns : goal.returns
returns c =
    let g = c.args.outline.now in
    IfOk-weaker c.polygon_inside.result (λ fault. fault ≡ find (has_fault g) (of_other_elements validity.ElementInside g)) _
    (λ fault e. sym (second_follows (has_fault g) (of_two_elements validity.ElementsMeet g)
    (of_other_elements validity.ElementInside g) c.in_ok-meeting.meeting fault c.in_ok-meeting.ensures (sym c.is_some.ensures ∙ c.if-is_some.false) e))
    c.polygon_inside.ensures
