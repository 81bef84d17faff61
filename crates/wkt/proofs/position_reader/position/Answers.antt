-- A position that is spelled as most are is the one that the reader finds.
use Rattle.std.proofs.Common.{rules, arith}
use Rattle.std.proofs.lemmas.Grind.{common_steps}
use Rattle.wkt.proofs.position_reader.position.Goals as goal

pub returns-in-Some-clause-read : goal.returns-in-Some-clause-read
returns-in-Some-clause-read c =
    let found = rw c.left.ensures at (c.in-Some.ensures.found c.args.room c.if-room-gt0.true c.args.cursor.now.at) in
    let left = c.leave.ensures in
    first_of (search rules, grind (arith, common_steps))
