use Rattle.std.proofs.Common.{◌≡◌, ◌∙◌, ◌-◌, suc, Ok, true, false, rules, arith}
use Rattle.std.proofs.lemmas.Grind.{common_steps}
use Rattle.geometry_model.specs.TextReading.{eat, point}
use Rattle.wkt.proofs.Bodies.{item_fails, item_and_more, last_item}
use Rattle.wkt.proofs.list_reader.points.Goals as goal

pub returns-in_err-point : goal.returns-in_err-point
returns-in_err-point c =
    rw (c.loop-points.invariant, item_fails point c.loop-points.room c.loop-points.cursor c.in_err-point.field-0.0 c.in_err-point.ensures.read)
    (first_of (search rules, grind (arith, common_steps)))

pub returns-then-not-eat : goal.returns-then-not-eat
returns-then-not-eat c =
    let some : c.loop-points.room ≡ suc (c.loop-points.room - 1) = omega (arith, c.in_ok-point.ensures.has_room) in
    let comma : eat 44 c.padded_point.new.cursor ≡ Ok (false, c.eat.new.self) = cc in
    rw c.in_ok-push.ensures.items
    (c.loop-points.invariant
    ∙ last_item point c.loop-points.points.items c.loop-points.room (c.loop-points.room - 1) c.loop-points.cursor c.padded_point.new.cursor c.eat.new.self
    c.in_ok-point.point some c.in_ok-point.ensures.read comma)

pub loop-points-preserved : goal.loop-points-preserved
loop-points-preserved c =
    let some : c.loop-points.room ≡ suc (c.loop-points.room - 1) = omega (arith, c.in_ok-point.ensures.has_room) in
    let comma : eat 44 c.padded_point.new.cursor ≡ Ok (true, c.eat.new.self) = cc in
    rw c.in_ok-push.ensures.items
    (c.loop-points.invariant
    ∙ item_and_more point c.loop-points.points.items c.loop-points.room (c.loop-points.room - 1) c.loop-points.cursor c.padded_point.new.cursor c.eat.new.self
    c.in_ok-point.point some c.in_ok-point.ensures.read comma)
