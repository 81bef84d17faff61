use Rattle.std.proofs.Common.{◌∙◌, ◌≡◌, ◌-◌, suc, Err, rules, arith}
use Rattle.std.proofs.lemmas.Grind.{common_steps}
use Rattle.wkb.specs.BinaryPieces.{repeated, member}
use Rattle.wkb.proofs.Items.{fails_alike}
use Rattle.wkb.proofs.Repeated.{repeated_done, repeated_fails, repeated_more}
use Rattle.wkb.proofs.apart.counted_members.Goals as goal

pub returns-in_err-member : goal.returns-in_err-member
returns-in_err-member c =
    let some : c.loop-left.left ≡ suc (c.loop-left.left - 1) = omega arith in
    let is : c.from_residual.result ≡ Err c.in_err-member.field-0.0 = first_of (search rules, grind (arith, common_steps)) in
    rw is (fails_alike (member c.args.element c.loop-left.pieces c.loop-left.cursor)
    (repeated (member c.args.element) c.args.count c.args.pieces.now c.args.cursor.now) c.in_err-member.field-0.0
    (λ refusal failed. c.loop-left.invariant
    ∙ repeated_fails (member c.args.element) c.loop-left.pieces c.loop-left.left (c.loop-left.left - 1) c.loop-left.cursor refusal some failed)
    c.in_err-member.ensures)

pub loop-left-preserved : goal.loop-left-preserved
loop-left-preserved c =
    let some : c.loop-left.left ≡ suc (c.loop-left.left - 1) = omega arith in
    c.loop-left.invariant
    ∙ repeated_more (member c.args.element) c.loop-left.pieces c.member.new.pieces c.loop-left.left (c.loop-left.left - 1) c.loop-left.cursor
    c.member.new.cursor some c.in_ok-member.ensures

pub returns : goal.returns
returns c = c.loop-left.invariant
    ∙ repeated_done (member c.args.element) c.loop-left.pieces c.loop-left.left c.loop-left.cursor (omega arith)
