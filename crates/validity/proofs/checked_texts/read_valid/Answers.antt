use Rattle.std.proofs.Common.{◌≡◌, Ok, Err, Some, sym, ap, subst, ◌∙◌}
use Rattle.std.specs.Option.{IfSome}
use Rattle.std.specs.Prelude.{MatchOption}
use Rattle.geometry_model.specs.FirstFaults.{validity_fault}
use Rattle.geometry_model.specs.TextReading.{read_text}
use Rattle.validity.proofs.CheckedTexts.{of_unread, of_invalid, of_valid}
use Rattle.validity.proofs.checked_texts.read_valid.Goals as goal

pub returns-in-Some : goal.returns-in-Some
returns-in-Some c =
    sym (of_unread c.args.text.now c.in-Some.fault
    (subst (λ o. IfSome o (λ fault. read_text c.args.text.now ≡ Err fault)) (sym c.text_fault.ensures ∙ c.in-Some.is) (c.in-Err.ensures.fault)))

pub returns-in-Ok-check : goal.returns-in-Ok-check
returns-in-Ok-check c =
    ap Ok (c.in-Ok-check.ensures.same) ∙ sym (of_valid c.args.text.now c.in-Ok.geometry (c.in-Ok.ensures.ok) (c.in-Ok-check.ensures.faultless))

pub returns-in-Some-validity_fault : goal.returns-in-Some-validity_fault
returns-in-Some-validity_fault c =
    sym (of_invalid c.args.text.now c.in-Ok.geometry c.in-Some-validity_fault.fault (c.in-Ok.ensures.ok)
    (subst (λ o. MatchOption o (Unit {0}) (λ found. validity_fault c.in-Ok.geometry ≡ Some found)) (sym c.validity_fault.ensures ∙ c.in-Some-validity_fault.is) (c.in-Err-check.ensures.fault)))
