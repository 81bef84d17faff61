use Rattle.std.proofs.Common.{◌∙◌, ◌≡◌, ◌-◌, suc, Err, rules, arith}
use Rattle.std.proofs.lemmas.Grind.{common_steps}
use Rattle.wkb.specs.BinaryPieces.{repeated, line_onto}
use Rattle.wkb.proofs.Items.{fails_alike}
use Rattle.wkb.proofs.Repeated.{repeated_done, repeated_fails, repeated_more}
use Rattle.wkb.proofs.apart.lines_onto.Goals as goal

pub returns-in_err-line_onto : goal.returns-in_err-line_onto
returns-in_err-line_onto c =
    let some : c.loop-left.left ≡ suc (c.loop-left.left - 1) = omega arith in
    let is : c.from_residual.result ≡ Err c.in_err-line_onto.field-0.0 = first_of (search rules, grind (arith, common_steps)) in
    rw is (fails_alike (line_onto c.args.is_little c.loop-left.pieces c.loop-left.cursor)
    (repeated (line_onto c.args.is_little) c.args.count c.args.pieces.now c.args.cursor.now) c.in_err-line_onto.field-0.0
    (λ refusal failed. c.loop-left.invariant
    ∙ repeated_fails (line_onto c.args.is_little) c.loop-left.pieces c.loop-left.left (c.loop-left.left - 1) c.loop-left.cursor refusal some failed)
    c.in_err-line_onto.ensures)

pub loop-left-preserved : goal.loop-left-preserved
loop-left-preserved c =
    let some : c.loop-left.left ≡ suc (c.loop-left.left - 1) = omega arith in
    c.loop-left.invariant
    ∙ repeated_more (line_onto c.args.is_little) c.loop-left.pieces c.line_onto.new.pieces c.loop-left.left (c.loop-left.left - 1) c.loop-left.cursor
    c.line_onto.new.cursor some c.in_ok-line_onto.ensures

pub returns : goal.returns
returns c = c.loop-left.invariant
    ∙ repeated_done (line_onto c.args.is_little) c.loop-left.pieces c.loop-left.left c.loop-left.cursor (omega arith)
