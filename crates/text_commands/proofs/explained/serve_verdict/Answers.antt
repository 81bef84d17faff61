-- Each exit: the word's text can't be got, or the command goes on with it.
use Rattle.std.proofs.Common.{Err, Ok, refl, subst}
use Rattle.text_commands.specs.Explanations.{MayExplainText}
use Rattle.text_commands.specs.Reasons.{ShowsVerdict}
use Rattle.text_commands.proofs.explained.serve_verdict.Goals as goal

pub returns-in-Err-clause-serves : goal.returns-in-Err-clause-serves
returns-in-Err-clause-serves g c = record {
  end = Err c.in-Err.failure;
  ends = record {
    text = Err c.in-Err.failure;
    next = c.geometry_text.new.opener;
    given = c.in-Err.ensures.failure;
    rest = (refl, (refl, refl));
  };
  returned = c.failed.ensures.status;
  reported = c.failed.ensures.line;
}

pub returns-clause-serves : goal.returns-clause-serves
returns-clause-serves g c =
    let shown = c.show_verdict.ensures.serves in record {
      end = shown.end;
      ends = record {
        text = Ok c.in-Ok.text.items;
        next = c.geometry_text.new.opener;
        given = c.in-Ok.ensures.text;
        rest = subst
            (λ text. ShowsVerdict g.S.Sink.taken g.S.Sink.failures c.args.out.now c.show_verdict.new.out text shown.end
            × MayExplainText g.M.Sink.taken g.M.Sink.failures c.args.more.now c.show_verdict.new.more text shown.end)
            c.as_slice.ensures.value shown.ends;
      };
      returned = shown.returned;
      reported = shown.reported;
    }
