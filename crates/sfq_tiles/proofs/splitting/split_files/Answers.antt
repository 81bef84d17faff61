-- The schema's file is read first.
use Rattle.std.proofs.Common.{Err, Ok, refl}
use Rattle.sfq_tiles.specs.declared.endings.Ending.TheVariants as e
use Rattle.sfq_tiles.proofs.splitting.split_files.Goals as goal

pub returns-in-Ok : goal.returns-in-Ok
returns-in-Ok g c =
    let h = c.split_schema.ensures in
    record {
      end = h.end;
      ends = record { schema = Ok c.in-Ok.schema; read = c.in-Ok.ensures; rest = h.ends };
      returned = h.returned;
      reported = h.reported;
    }

pub returns-in-Err : goal.returns-in-Err
returns-in-Err g c = record {
  end = Err (e.Failed c.in-Err.failure);
  ends = record { schema = Err c.in-Err.failure; read = c.in-Err.ensures; rest = (refl, refl, refl) };
  returned = c.ended.ensures.status;
  reported = c.ended.ensures.line;
}
