use Rattle.std.proofs.Common.{rules, arith}
use Rattle.std.proofs.lemmas.Grind.{common_steps}
use Rattle.wkt.proofs.Rooms.{ring_none, ring_some}
use Rattle.wkt.proofs.list_reader.ring.Goals as goal

pub returns-then-room-eq0-clause-read : goal.returns-then-room-eq0-clause-read
returns-then-room-eq0-clause-read c =
    rw (ring_none c.args.room c.args.cursor.now c.expect.new.self _ c.if-room-eq0.true c.in_ok-expect.ensures) (first_of (search rules, grind (arith, common_steps)))

pub returns-in_err-line-clause-read : goal.returns-in_err-line-clause-read
returns-in_err-line-clause-read c =
    rw (ring_some c.args.room c.args.cursor.now c.expect.new.self _ c.if-room-eq0.false c.in_ok-expect.ensures) (first_of (search rules, grind (arith, common_steps)))

pub returns-in_err-expect-2-clause-read : goal.returns-in_err-expect-2-clause-read
returns-in_err-expect-2-clause-read c =
    rw (ring_some c.args.room c.args.cursor.now c.expect.new.self _ c.if-room-eq0.false c.in_ok-expect.ensures) (first_of (search rules, grind (arith, common_steps)))
