-- Each exit: the schema isn't read, or the command over it ends so, and its end is explained or not.
use Rattle.std.proofs.Common.{Err, Ok, refl, subst}
use Rattle.csv.specs.Records.{fields_of}
use Rattle.engine.specs.Commands.{ExplainsRun}
use Rattle.engine.proofs.ExplanationLemmas.{asked-of-file}
use Rattle.text_commands.specs.Files.{OpensFile}
use Rattle.engine.proofs.commands.serve_run.Goals as goal

pub returns-in-Err-clause-serves : goal.returns-in-Err-clause-serves
returns-in-Err-clause-serves g c = record {
  end = Err c.in-Err.failure;
  ends = record {
    file = c.opener.result;
    next = c.opener.new.self;
    opened = record { shown = c.args.paths.now.schema; shows = refl; called = c.opener.ensures };
    schema = Err c.in-Err.failure;
    read = c.in-Err.ensures.reads;
    rest = (
      refl,
      (
        refl,
        asked-of-file g.R.Read.remaining g.M.Sink.taken g.M.Sink.failures c.args.more.now c.schema_in.new.more c.opener.result
            c.in-Err.failure c.args.paths.now.why c.schema_in.ensures.unasked c.in-Err.ensures.explains,
      ),
    );
  };
  returned = c.failed.ensures.status;
  reported = c.failed.ensures.line;
}

pub returns-clause-serves : goal.returns-clause-serves
returns-clause-serves g c = let header = fields_of c.run_over-end.new.last.header in
    let last = fields_of c.run_over-end.new.last.record in record {
      end = c.run_over-end.result;
      ends = record {
        file = c.opener.result;
        next = c.opener.new.self;
        opened = record { shown = c.args.paths.now.schema; shows = refl; called = c.opener.ensures };
        schema = Ok c.in-Ok.schema;
        read = c.in-Ok.ensures.reads;
        rest = (
          c.run_over-end.new.opener,
          header,
          last,
          c.run_over-end.ensures.runs,
          subst (λ old. ExplainsRun (OpensFile g.F.FnMut) g.R.Read.remaining g.M.Sink.taken g.M.Sink.failures old
              c.explain_run.new.more
              c.run_over-end.new.opener c.args.paths.now.directory.now header last c.args.paths.now.why c.args.query.now
              c.in-Ok.schema
              c.run_over-end.result)
              c.in-Ok.ensures.quiet c.explain_run.ensures.explains,
        );
      };
      returned = c.ended.ensures.status;
      reported = c.ended.ensures.line;
    }
