-- Each exit: a verdict is found and written, or the text is refused.
use Rattle.std.proofs.Common.{inl, Err, Ok, refl}
use Rattle.text_commands.proofs.explained.show_verdict.Goals as goal

pub returns-in-Ok-clause-serves : goal.returns-in-Ok-clause-serves
returns-in-Ok-clause-serves g c = record {
  end = c.put_validity.ensures.end;
  ends = (
    record {
      found = Ok c.in-Ok.verdict;
      holds = c.in-Ok.ensures.ok;
      refused = tt;
      rest = c.put_validity.ensures.ends;
    },
    inl refl,
  );
  returned = c.put_validity.ensures.returned;
  reported = c.put_validity.ensures.reported;
}

pub returns-in-Err-clause-serves : goal.returns-in-Err-clause-serves
returns-in-Err-clause-serves g c = record {
  end = Err c.in-Err.failure;
  ends = (
    record {
      found = Err c.in-Err.failure;
      holds = tt;
      refused = c.in-Err.ensures.failure;
      rest = (refl, refl);
    },
    c.explain_text.ensures.explains,
  );
  returned = c.failed.ensures.status;
  reported = c.failed.ensures.line;
}
