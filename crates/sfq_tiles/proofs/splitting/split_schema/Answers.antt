use Rattle.std.proofs.Common.{Err, Ok, refl}
use Rattle.sfq_tiles.proofs.splitting.split_schema.Goals as goal

pub returns-in-Ok : goal.returns-in-Ok
returns-in-Ok g c = record { end = Ok tt; ends = c.in-Ok.ensures; returned = refl; reported = refl }

pub returns-in-Err : goal.returns-in-Err
returns-in-Err g c =
    let h = c.ended.ensures in
    record { end = Err c.in-Err.ending; ends = c.in-Err.ensures; returned = h.status; reported = h.line }
