-- Each exit over the tables' files.
use Rattle.std.proofs.Common.{◌∙◌, ℕ, Err, Ok, refl}
use Rattle.csv.specs.Records.{fields_of}
use Rattle.engine.proofs.FileLemmas.{counts-as, runs-as}
use Rattle.text_commands.proofs.WordLemmas.{handed-on}
use Rattle.engine.specs.Commands.{RunsTables}
use Rattle.text_commands.specs.Files.{OpensFile}
use Rattle.engine.proofs.commands.run_over.Goals as goal

pub returns-in_err-readers-clause-runs : goal.returns-in_err-readers-clause-runs
returns-in_err-readers-clause-runs g c =
    handed-on c.from_residual.result c.in_err-readers.field-0.0 c.from_residual.ensures.1
    (RunsTables (OpensFile g.F.FnMut) g.R.Read.remaining g.S.Sink.taken g.S.Sink.failures c.args.out.now c.args.out.now
    c.args.opener.now c.open_tables.new.opener c.args.directory.now c.args.query.now c.args.schema.now
    (fields_of c.args.last.now.header) (fields_of c.args.last.now.record))
    (record { readers = Err c.in_err-readers.field-0.0; opened = c.in_err-readers.ensures.failure; rest = (refl, refl) })

pub returns-in-Ok-clause-runs : goal.returns-in-Ok-clause-runs
returns-in-Ok-clause-runs g c =
    let these = c.in-Ok.ensures.leaves in record {
      readers = Ok c.in_ok-readers.readers.items;
      opened = c.in_ok-readers.ensures.opened;
      rest = (these.records, these.are_of, record { runs = (these.runs, tt); failures = c.in-Ok.ensures.runs.failures });
    }

pub returns-in-Err-clause-runs : goal.returns-in-Err-clause-runs
returns-in-Err-clause-runs g c =
    let these = c.in-Err.ensures.leaves in record {
      readers = Ok c.in_ok-readers.readers.items;
      opened = c.in_ok-readers.ensures.opened;
      rest = (
        these.records,
        these.are_of,
        record {
          runs = (
            c.in-Err.fault,
            c.run_failure.ensures,
            (λ matrix gives. runs-as ℕ (Unit {0}) c.in-Err.fault _ _ _ _ (these.runs matrix gives), these.shows),
          );
          failures = c.in-Err.ensures.runs.failures ∙ counts-as c.args.schema.now c.in-Err.fault c.run_failure.result
              (g.S.Sink.failures c.args.out.now) c.run_failure.ensures;
        },
      );
    }
