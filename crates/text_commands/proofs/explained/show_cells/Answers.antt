-- Each exit: witnesses are found and written, or none are.
use Rattle.std.proofs.Common.{inl, Err, Ok, refl}
use Rattle.text_commands.proofs.explained.show_cells.Goals as goal

pub returns-in-Ok-clause-serves : goal.returns-in-Ok-clause-serves
returns-in-Ok-clause-serves g c = record {
  end = c.put_cells.ensures.end;
  ends = (
    record {
      found = Ok c.in-Ok.witnesses;
      shows = c.in-Ok.ensures.shows;
      refused = λ matrix. tt;
      rest = c.put_cells.ensures.ends;
    },
    inl (inl refl),
  );
  returned = c.put_cells.ensures.returned;
  reported = c.put_cells.ensures.reported;
}

pub returns-in-Err-clause-serves : goal.returns-in-Err-clause-serves
returns-in-Err-clause-serves g c = record {
  end = Err c.in-Err.failure;
  ends = (
    record {
      found = Err c.in-Err.failure;
      shows = tt;
      refused = λ matrix. c.in-Err.ensures.failure matrix;
      rest = (refl, refl);
    },
    c.explain_texts.ensures.explains,
  );
  returned = c.failed.ensures.status;
  reported = c.failed.ensures.line;
}
