use Rattle.std.proofs.Common.{◌≡◌, ◌∙◌, ◌-◌, suc, Err, rules, arith}
use Rattle.std.proofs.lemmas.Grind.{common_steps}
use Rattle.wkb.specs.BinaryReading as spec
use Rattle.wkb.proofs.Items.{behind_nothing, several_done, several_fails, several_more, fails_alike}
use Rattle.wkb.proofs.Additions.{none_added, one_added}
use Rattle.wkb.proofs.lists.parts.Goals as goal

pub loop-left-init : goal.loop-left-init
loop-left-init c = rw c.new-rings.ensures.items (record { read = behind_nothing _; added = none_added c.args.cursor.now })

pub returns-in_err-ring-clause-read : goal.returns-in_err-ring-clause-read
returns-in_err-ring-clause-read c =
    let some : c.loop-left.left ≡ suc (c.loop-left.left - 1) = omega arith in
    let is : c.from_residual.result ≡ Err c.in_err-ring.field-0.0 = first_of (search rules, grind (arith, common_steps)) in
    rw is (fails_alike (spec.part c.args.grid.now c.args.is_little c.loop-left.cursor)
    (spec.several (spec.part c.args.grid.now c.args.is_little) c.args.count c.args.cursor.now) c.in_err-ring.field-0.0
    (λ refusal failed. c.loop-left.invariant.read
    ∙ several_fails (spec.part c.args.grid.now c.args.is_little) c.loop-left.rings.items c.loop-left.left
    (c.loop-left.left - 1) c.loop-left.cursor refusal some failed)
    c.in_err-ring.ensures.read)

pub loop-left-preserved : goal.loop-left-preserved
loop-left-preserved c =
    let some : c.loop-left.left ≡ suc (c.loop-left.left - 1) = omega arith in
    rw c.in_ok-push.ensures.items record {
      read = c.loop-left.invariant.read ∙ several_more
          (spec.part c.args.grid.now c.args.is_little) c.loop-left.rings.items c.loop-left.left
          (c.loop-left.left - 1) c.loop-left.cursor c.part.new.cursor c.in_ok-ring.ring some c.in_ok-ring.ensures.read;
      added = one_added c.args.cursor.now c.loop-left.cursor c.part.new.cursor c.loop-left.rings.items c.in_ok-ring.ring
          c.loop-left.invariant.added c.in_ok-ring.ensures.added c.in_ok-ring.ensures.part;
    }

pub returns-clause-read : goal.returns-clause-read
returns-clause-read c = c.loop-left.invariant.read
    ∙ several_done (spec.part c.args.grid.now c.args.is_little) c.loop-left.rings.items c.loop-left.left c.loop-left.cursor
    (omega arith)
