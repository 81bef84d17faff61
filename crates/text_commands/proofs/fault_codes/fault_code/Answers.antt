-- The list has each code, and none of the list is spelled.
use Rattle.std.proofs.Common.{arith, subst, sym}
use Rattle.text_commands.specs.FaultPages.{IsCode}
use Rattle.text_commands.proofs.CodeLemmas.{at_place}
use Rattle.text_commands.proofs.fault_codes.fault_code.Goals as goal

pub returns-clause-none : goal.returns-clause-none
returns-clause-none c code is_code =
    let at = at_place code in
    let within = at.1 in
    let all = c.loop-place-test.false in
    c.loop-place.invariant at.0 (omega (arith, within, all)) (subst (IsCode c.args.word.now) (sym at.2) is_code)
