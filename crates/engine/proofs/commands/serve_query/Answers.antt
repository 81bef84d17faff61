-- Each exit: the query's text can't be got, or the command goes on with it.
use Rattle.std.proofs.Common.{Err, Ok, refl, subst}
use Rattle.std.specs.String.{string_bytes}
use Rattle.engine.specs.Commands.{RunsFiles}
use Rattle.text_commands.specs.Files.{OpensFile}
use Rattle.engine.proofs.commands.serve_query.Goals as goal

pub returns-in-Err-clause-serves : goal.returns-in-Err-clause-serves
returns-in-Err-clause-serves g c = record {
  end = Err c.in-Err.failure;
  ends = record {
    text = Err c.in-Err.failure;
    next = c.query_text.new.opener;
    given = c.in-Err.ensures.failure;
    rest = (refl, (refl, c.query_text.ensures.explains));
  };
  returned = c.failed.ensures.status;
  reported = c.failed.ensures.line;
}

pub returns-clause-serves : goal.returns-clause-serves
returns-clause-serves g c =
    let paths = c.args.paths.now in record {
      end = c.serve_run.ensures.serves.end;
      ends = record {
        text = Ok (string_bytes c.in-Ok.text);
        next = c.query_text.new.opener;
        given = c.in-Ok.ensures.text;
        rest = subst
            (λ old. RunsFiles (OpensFile g.F.FnMut) g.R.Read.remaining g.S.Sink.taken g.S.Sink.failures c.args.out.now
            c.serve_run.new.out g.M.Sink.taken g.M.Sink.failures old c.serve_run.new.more paths.why c.query_text.new.opener
            paths.schema.now paths.directory.now (string_bytes c.in-Ok.text) c.serve_run.ensures.serves.end) c.in-Ok.ensures.quiet
            (subst
            (λ query. RunsFiles (OpensFile g.F.FnMut) g.R.Read.remaining g.S.Sink.taken g.S.Sink.failures c.args.out.now
            c.serve_run.new.out g.M.Sink.taken g.M.Sink.failures c.query_text.new.more c.serve_run.new.more paths.why
            c.query_text.new.opener paths.schema.now paths.directory.now query c.serve_run.ensures.serves.end)
            c.as_str.ensures.value
            c.serve_run.ensures.serves.ends);
      };
      returned = c.serve_run.ensures.serves.returned;
      reported = c.serve_run.ensures.serves.reported;
    }
