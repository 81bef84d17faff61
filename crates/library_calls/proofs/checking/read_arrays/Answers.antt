-- What was taken is tested.
use Rattle.std.proofs.Common.{◌≡◌, Ok, Err, Some, sym, ap, subst, ◌∙◌}
use Rattle.std.specs.Option.{IfSome}
use Rattle.std.specs.Prelude.{MatchOption}
use Rattle.geometry_model.specs.FirstFaults.{validity_fault}
use Rattle.library_calls.specs.Written.{taken, written_as}
use Rattle.library_calls.proofs.Tested.{of_invalid, of_untaken, of_valid}
use Rattle.library_calls.proofs.checking.read_arrays.Goals as goal

pub returns-in-Some : goal.returns-in-Some
returns-in-Some c =
    let w = written_as c.args.geometry_type c.args.positions.now c.args.lines.now c.args.polygons.now in
    sym (of_untaken w c.in-Some.fault (subst (λ o. IfSome o (λ fault. taken w ≡ Err fault)) (sym c.text_fault.ensures ∙ c.in-Some.is) c.in-Err.ensures.fault))

pub returns-in-Ok-check : goal.returns-in-Ok-check
returns-in-Ok-check c =
    let w = written_as c.args.geometry_type c.args.positions.now c.args.lines.now c.args.polygons.now in
    ap Ok c.in-Ok-check.ensures.same ∙ sym (of_valid w c.in-Ok.geometry c.in-Ok.ensures.ok c.in-Ok-check.ensures.faultless)

pub returns-in-Some-validity_fault : goal.returns-in-Some-validity_fault
returns-in-Some-validity_fault c =
    let w = written_as c.args.geometry_type c.args.positions.now c.args.lines.now c.args.polygons.now in
    sym (of_invalid w c.in-Ok.geometry c.in-Some-validity_fault.fault c.in-Ok.ensures.ok
    (subst (λ o. MatchOption o (Unit {0}) (λ found. validity_fault c.in-Ok.geometry ≡ Some found)) (sym c.validity_fault.ensures ∙ c.in-Some-validity_fault.is) c.in-Err-check.ensures.fault))
