-- Each exit of relating: a refusal, a text that is written, and one that can't be.
use Rattle.std.proofs.Common.{◌∙◌, ◌++◌, codes, Err, Ok, ap, inl, refl, subst}
use Rattle.std.specs.Io.KnownBytes.{Appends}
use Rattle.text_commands.proofs.EndLemmas.{relate-refused, relate-text}
use Rattle.text_commands.specs.TextCommands.{relate_text}
use Rattle.failures.specs.declared.failure.Failure.TheVariants as f
use Rattle.streams.specs.Sinks.{AppendsFront}
use Rattle.text_commands.proofs.served.relate_given.Goals as goal

pub returns-in-Err-clause-serves : goal.returns-in-Err-clause-serves
returns-in-Err-clause-serves g c = record {
  end = Err c.in-Err.failure;
  ends = (
    relate-refused _ _ c.in-Err.failure _ _ c.in-Err.ensures.failure,
    c.explain_texts.ensures.explains,
  );
  returned = c.failed.ensures.status;
  reported = c.failed.ensures.line;
}

pub returns-in-Ok-put_parts-clause-serves : goal.returns-in-Ok-put_parts-clause-serves
returns-in-Ok-put_parts-clause-serves g c =
    let line = ap (λ t. t ++ codes "\n") (c.as_slice.ensures ∙ c.text.ensures) in record {
      end = Ok tt;
      ends = (
        record {
          answers = λ matrix gives. (
            relate_text c.in-Ok.matrix,
            relate-text matrix _ _ c.in-Ok.matrix (c.in-Ok.ensures.ok matrix gives),
            subst (λ l. Appends (g.S.Sink.taken c.args.out.now) (g.S.Sink.taken c.put_parts.new.sink) l) line c.in-Ok-put_parts.ensures.ok,
          );
          failures = c.in-Ok-put_parts.ensures.failures;
        },
        inl (inl refl),
      );
      returned = refl;
      reported = refl;
    }

pub returns-in-Err-put_parts-clause-serves : goal.returns-in-Err-put_parts-clause-serves
returns-in-Err-put_parts-clause-serves g c =
    let line = ap (λ t. t ++ codes "\n") (c.as_slice.ensures ∙ c.text.ensures) in record {
      end = Err f.WriteFailed;
      ends = (
        record {
          answers = λ matrix gives. (
            relate_text c.in-Ok.matrix,
            relate-text matrix _ _ c.in-Ok.matrix (c.in-Ok.ensures.ok matrix gives),
            subst (λ l. AppendsFront (g.S.Sink.taken c.args.out.now) (g.S.Sink.taken c.put_parts.new.sink) l) line c.in-Err-put_parts.ensures.front,
          );
          failures = c.in-Err-put_parts.ensures.failures;
        },
        inl (inl refl),
      );
      returned = c.failed-in-Err-put_parts.ensures.status;
      reported = c.failed-in-Err-put_parts.ensures.line;
    }
