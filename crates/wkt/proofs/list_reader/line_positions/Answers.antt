-- The positions before this one were read, and those that repeat the one before them left out.
use Rattle.std.proofs.Common.{◌≡◌, ◌∙◌, ◌-◌, ap, suc, Ok, true, false, sym, rules, arith}
use Rattle.std.proofs.lemmas.Grind.{common_steps}
use Rattle.geometry_model.specs.TextReading.{eat, position}
use Rattle.wkt.proofs.Bodies.{item_fails}
use Rattle.wkt.proofs.Repeats.{kept_and_more, kept_last, still_steady, last_now}
use Rattle.wkt.proofs.list_reader.line_positions.Goals as goal

pub returns-in_err-position-clause-read : goal.returns-in_err-position-clause-read
returns-in_err-position-clause-read c =
    rw (c.loop-positions.invariant.read, item_fails position c.loop-positions.room c.loop-positions.cursor c.in_err-position.field-0.0 c.in_err-position.ensures.read)
    (first_of (search rules, grind (arith, common_steps)))

pub new-requires-clause-counted : goal.new-requires-clause-counted
new-requires-clause-counted c =
    let some : c.loop-positions.room ≡ suc (c.loop-positions.room - 1) = omega (arith, c.in_ok-position.ensures.has_room) in
    omega (arith, c.in_ok-push_new.ensures.grown, some, c.loop-positions.invariant.counted, c.requires)

pub new-requires-clause-no_repeats : goal.new-requires-clause-no_repeats
new-requires-clause-no_repeats c =
    rw c.in_ok-push_new.ensures.pushed
    (still_steady c.loop-positions.last c.loop-positions.positions.items c.in_ok-position.position c.loop-positions.invariant.latest c.loop-positions.invariant.steady)

pub returns-then-not-eat-clause-read : goal.returns-then-not-eat-clause-read
returns-then-not-eat-clause-read c =
    let some : c.loop-positions.room ≡ suc (c.loop-positions.room - 1) = omega (arith, c.in_ok-position.ensures.has_room) in
    let comma : eat 44 c.padded_position.new.cursor ≡ Ok (false, c.eat.new.self) = cc in
    let made = c.new.ensures ∙ c.in_ok-push_new.ensures.pushed in
    c.loop-positions.invariant.read
    ∙ (kept_last c.loop-positions.last c.loop-positions.positions.items c.loop-positions.room (c.loop-positions.room - 1) c.loop-positions.cursor c.padded_position.new.cursor c.eat.new.self
    c.in_ok-position.position c.loop-positions.invariant.latest c.loop-positions.invariant.steady some c.in_ok-position.ensures.read comma
    ∙ ap (λ l. Ok ((l, c.loop-positions.room - 1), c.eat.new.self)) (sym made))

pub loop-positions-preserved : goal.loop-positions-preserved
loop-positions-preserved c =
    let some : c.loop-positions.room ≡ suc (c.loop-positions.room - 1) = omega (arith, c.in_ok-position.ensures.has_room) in
    let comma : eat 44 c.padded_position.new.cursor ≡ Ok (true, c.eat.new.self) = cc in
    rw c.in_ok-push_new.ensures.pushed record {
      read = c.loop-positions.invariant.read
          ∙ kept_and_more c.loop-positions.last c.loop-positions.positions.items c.loop-positions.room (c.loop-positions.room - 1) c.loop-positions.cursor c.padded_position.new.cursor c.eat.new.self
          c.in_ok-position.position c.loop-positions.invariant.latest c.loop-positions.invariant.steady some c.in_ok-position.ensures.read comma;
      steady = still_steady c.loop-positions.last c.loop-positions.positions.items c.in_ok-position.position c.loop-positions.invariant.latest c.loop-positions.invariant.steady;
      latest = sym (last_now c.loop-positions.last c.loop-positions.positions.items c.in_ok-position.position c.loop-positions.invariant.latest);
      counted = omega (arith, c.in_ok-push_new.ensures.grown, some, c.loop-positions.invariant.counted);
    }
