-- The positions before this one were read, and those that repeat the one before them left out.
use Rattle.std.proofs.Common.{◌≡◌, ◌∙◌, ◌-◌, ap, suc, Ok, Err, None, sym, rules, arith}
use Rattle.std.proofs.lemmas.Grind.{common_steps}
use Rattle.wkt.proofs.Repeats.{still_steady, last_now}
use Rattle.wkb.specs.BinaryReading as spec
use Rattle.wkb.proofs.Items.{positions_done, positions_fail, settling_fails, positions_more, fails_alike, some_by_last}
use Rattle.wkb.proofs.lists.positions.Goals as goal

pub returns-in_err-position-clause-read : goal.returns-in_err-position-clause-read
returns-in_err-position-clause-read c =
    let some : c.loop-left.left ≡ suc (c.loop-left.left - 1) = omega arith in
    rw (
      c.loop-left.invariant.read,
      positions_fail c.args.grid.now c.args.is_little c.loop-left.last c.loop-left.positions.items c.loop-left.left
          (c.loop-left.left - 1)
          c.loop-left.cursor c.in_err-position.field-0.0 some c.in_err-position.ensures.read,
    )
    (first_of (search rules, grind (arith, common_steps)))

pub returns-in_err-settle-clause-read : goal.returns-in_err-settle-clause-read
returns-in_err-settle-clause-read c =
    let some : c.loop-left.left ≡ suc (c.loop-left.left - 1) = omega arith in
    let is : c.from_residual-in_err-settle.result
    ≡ Err c.in_err-settle.field-0.0 = first_of (search rules, grind (arith, common_steps)) in
    rw is (fails_alike (spec.settle c.loop-left.last c.in_ok-position.position c.position.new.cursor)
    (spec.positions c.args.grid.now c.args.is_little c.args.count None c.args.cursor.now) c.in_err-settle.field-0.0
    (λ refusal failed. c.loop-left.invariant.read
    ∙ settling_fails c.args.grid.now c.args.is_little c.loop-left.last c.loop-left.positions.items c.loop-left.left
    (c.loop-left.left - 1) c.loop-left.cursor c.position.new.cursor
    c.in_ok-position.position refusal some c.in_ok-position.ensures.read failed)
    c.in_err-settle.ensures.read)

pub loop-left-preserved : goal.loop-left-preserved
loop-left-preserved c =
    let some : c.loop-left.left ≡ suc (c.loop-left.left - 1) = omega arith in
    let latest = sym (last_now c.loop-left.last c.loop-left.positions.items c.in_ok-position.position
    c.loop-left.invariant.latest) in
    record {
      read = rw c.in_ok-settle.ensures.pushed (c.loop-left.invariant.read
          ∙ positions_more c.args.grid.now c.args.is_little c.loop-left.last c.loop-left.positions.items c.loop-left.left
          (c.loop-left.left - 1) c.loop-left.cursor c.position.new.cursor c.settle.new.cursor
          c.in_ok-position.position some c.in_ok-position.ensures.read c.in_ok-settle.ensures.read);
      steady = rw c.in_ok-settle.ensures.pushed
          (still_steady c.loop-left.last c.loop-left.positions.items c.in_ok-position.position c.loop-left.invariant.latest
          c.loop-left.invariant.steady);
      latest = rw c.in_ok-settle.ensures.pushed latest;
      kept = omega (arith, c.in_ok-settle.ensures.counted, c.in_ok-position.ensures.added.0, c.loop-left.invariant.kept);
      parts = omega (arith, c.in_ok-settle.ensures.parts, c.in_ok-position.ensures.added.1, c.loop-left.invariant.parts);
      within = c.in_ok-settle.ensures.within (omega
          (arith, c.in_ok-position.ensures.added.0, c.loop-left.invariant.kept)) c.loop-left.invariant.within;
      some = λ _. rw c.in_ok-settle.ensures.pushed (some_by_last c.in_ok-position.position _ latest);
      fewer = omega (arith, c.loop-left.invariant.fewer);
    }

pub returns-clause-read : goal.returns-clause-read
returns-clause-read c =
    let none : c.loop-left.left ≡ 0 = omega arith in
    c.loop-left.invariant.read
    ∙ (positions_done c.args.grid.now c.args.is_little c.loop-left.last c.loop-left.positions.items c.loop-left.left
    c.loop-left.cursor none
    ∙ ap (λ l. Ok (l, c.loop-left.cursor)) (sym c.new.ensures))
