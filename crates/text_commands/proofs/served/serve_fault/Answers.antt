-- Each exit: nothing explains the words, the text that explains them is written, or it can't be.
use Rattle.std.proofs.Common.{Err, Ok, map, refl, subst}
use Rattle.std.specs.Io.KnownBytes.{Appends}
use Rattle.std.specs.String.{string_bytes}
use Rattle.failures.specs.declared.failure.Failure.TheVariants as f
use Rattle.streams.specs.Sinks.{AppendsFront}
use Rattle.text_commands.proofs.FaultEndLemmas.{unexplained}
use Rattle.text_commands.proofs.served.serve_fault.Goals as goal

pub returns-in-Err : goal.returns-in-Err
returns-in-Err g c = record {
  serves = record {
    end = Err c.in-Err.failure;
    ends = unexplained (map string_bytes c.args.words.now) c.in-Err.failure (g.S.Sink.taken c.args.out.now)
        (g.S.Sink.failures c.args.out.now) c.in-Err.ensures.failure;
    returned = c.failed.ensures.status;
    reported = c.failed.ensures.line;
  };
}

pub returns-in-Ok-put_all : goal.returns-in-Ok-put_all
returns-in-Ok-put_all g c = record {
  serves = record {
    end = Ok tt;
    ends = record {
      page = (
        c.in-Ok.text.now,
        c.in-Ok.ensures.text,
        subst (λ text. Appends (g.S.Sink.taken c.args.out.now) (g.S.Sink.taken c.put_all.new.sink) text)
            c.as_bytes.ensures.value c.in-Ok-put_all.ensures.ok,
      );
      failures = c.in-Ok-put_all.ensures.failures;
    };
    returned = refl;
    reported = refl;
  };
}

pub returns-in-Err-put_all : goal.returns-in-Err-put_all
returns-in-Err-put_all g c = record {
  serves = record {
    end = Err f.WriteFailed;
    ends = record {
      page = (
        c.in-Ok.text.now,
        c.in-Ok.ensures.text,
        subst (λ text. AppendsFront (g.S.Sink.taken c.args.out.now) (g.S.Sink.taken c.put_all.new.sink) text)
            c.as_bytes.ensures.value c.in-Err-put_all.ensures.front,
      );
      failures = c.in-Err-put_all.ensures.failures;
    };
    returned = c.failed-in-Err-put_all.ensures.status;
    reported = c.failed-in-Err-put_all.ensures.line;
  };
}
