-- Each exit: the line is written, or a beginning of it.
use Rattle.std.proofs.Common.{Err, Ok, refl}
use Rattle.failures.specs.declared.failure.Failure.TheVariants as f
use Rattle.text_commands.proofs.explained.put_validity.Goals as goal

pub returns-in-Ok : goal.returns-in-Ok
returns-in-Ok g c = record {
  end = Ok tt;
  ends = (c.in-Ok.ensures.ok, c.in-Ok.ensures.failures);
  returned = refl;
  reported = refl;
}

pub returns-in-Err : goal.returns-in-Err
returns-in-Err g c = record {
  end = Err f.WriteFailed;
  ends = (c.in-Err.ensures.front, c.in-Err.ensures.failures);
  returned = c.failed.ensures.status;
  reported = c.failed.ensures.line;
}
