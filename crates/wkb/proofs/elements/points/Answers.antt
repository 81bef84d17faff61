use Rattle.std.proofs.Common.{◌≡◌, ◌∙◌, ◌-◌, [], ◌∷◌, suc, length-append, rules, arith}
use Rattle.std.proofs.lemmas.Grind.{common_steps}
use Rattle.wkb.specs.BinaryReading as spec
use Rattle.wkb.proofs.Items.{behind_nothing, several_done, several_fails, several_more}
use Rattle.wkb.proofs.elements.points.Goals as goal

pub loop-left-init : goal.loop-left-init
loop-left-init c = rw c.new-points.ensures.items (record { read = behind_nothing _; added = (omega arith, omega arith) })

pub returns-in_err-point-clause-read : goal.returns-in_err-point-clause-read
returns-in_err-point-clause-read c =
    let some : c.loop-left.left ≡ suc (c.loop-left.left - 1) = omega arith in
    rw (
      c.loop-left.invariant.read,
      several_fails (spec.point c.args.grid.now) c.loop-left.points.items c.loop-left.left
          (c.loop-left.left - 1) c.loop-left.cursor c.in_err-point.field-0.0 some c.in_err-point.ensures.read,
    )
    (first_of (search rules, grind (arith, common_steps)))

pub loop-left-preserved : goal.loop-left-preserved
loop-left-preserved c =
    let some : c.loop-left.left ≡ suc (c.loop-left.left - 1) = omega arith in
    let longer = length-append c.loop-left.points.items (c.in_ok-point.point ∷ []) in
    rw c.in_ok-push.ensures.items record {
      read = c.loop-left.invariant.read ∙ several_more (spec.point c.args.grid.now) c.loop-left.points.items c.loop-left.left
          (c.loop-left.left - 1) c.loop-left.cursor c.point.new.cursor c.in_ok-point.point some c.in_ok-point.ensures.read;
      added = (
        omega (arith, longer, c.in_ok-point.ensures.added.0, c.loop-left.invariant.added.0),
        omega
            (arith, c.in_ok-point.ensures.added.1, c.loop-left.invariant.added.1),
      );
    }

pub returns-clause-read : goal.returns-clause-read
returns-clause-read c = c.loop-left.invariant.read
    ∙ several_done (spec.point c.args.grid.now) c.loop-left.points.items c.loop-left.left c.loop-left.cursor (omega arith)
