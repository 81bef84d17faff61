-- Each exit over the tables' files.
use Rattle.std.proofs.Common.{◌≡◌, Err, Ok, Result, refl}
use Rattle.engine.proofs.FileLemmas.{check-loaded, table-counts}
use Rattle.text_commands.proofs.WordLemmas.{handed-on}
use Rattle.engine.specs.Commands.{CheckEnds, OverTables, IsLoadedTo, check_text}
use Rattle.csv.specs.Records.{fields_of}
use Rattle.query_runs.proofs.RunLemmas.{load-shows, of-fault, table-refused}
use Rattle.query_runs.specs.Runs.{ShowsRun}
use Rattle.failures.specs.declared.run_fault.Fault.{Fault}
use Rattle.failures.specs.declared.run_fault.Fault.TheVariants as faults
use Rattle.table_model.specs.Databases.{load_tables}
use Rattle.table_model.specs.GeometryColumns.{read_geometry}
use Rattle.text_commands.specs.Files.{OpensFile}
use Rattle.engine.proofs.commands.check_over.Goals as goal

pub returns-in_err-readers-clause-checks : goal.returns-in_err-readers-clause-checks
returns-in_err-readers-clause-checks g c =
    let before = g.S.Sink.taken c.args.out.now in
    let count = g.S.Sink.failures c.args.out.now in
    handed-on c.from_residual.result c.in_err-readers.field-0.0 c.from_residual.ensures.1
    (λ r. OverTables (OpensFile g.F.FnMut) g.R.Read.remaining c.args.opener.now c.open_tables.new.opener c.args.directory.now
    c.args.schema.now (CheckEnds c.args.schema.now (fields_of c.args.last.now.header) (fields_of c.args.last.now.record)
    before before
    count count) r (c.args.out.now ≡ c.args.out.now))
    (record { readers = Err c.in_err-readers.field-0.0; opened = c.in_err-readers.ensures.failure; rest = (refl, refl) })

pub returns-in-Err-clause-checks : goal.returns-in-Err-clause-checks
returns-in-Err-clause-checks g c =
    let these = c.in-Err.ensures.records.0 in
    let failed : Result (Unit {0}) Fault = Err c.from.result in record {
      readers = Ok c.in_ok-readers.readers.items;
      opened = c.in_ok-readers.ensures.opened;
      rest = (
        these.records,
        these.are_of,
        record {
          checks = (
            c.from.result,
            c.run_failure.ensures,
            (
              table-refused failed c.in-Err.fault (load_tables read_geometry c.args.schema.now these.records)
                  (λ tables. Ok (check_text c.args.schema.now tables))
                  (IsLoadedTo c.args.schema.now these.records) (g.S.Sink.taken c.args.out.now) c.from.ensures these.loads
                  (c.in-Err.ensures.table, these.earlier),
              of-fault failed _ (ShowsRun these.records _ _) c.from.ensures
                  (load-shows these.records _ _ c.in-Err.fault c.in-Err.ensures.records.1),
            ),
          );
          failures = table-counts c.args.schema.now c.in-Err.fault c.from.result c.run_failure.result (g.S.Sink.failures c.args.out.now) c.from.ensures c.run_failure.ensures;
        },
      );
    }

pub returns-in-Ok-put_counts-clause-checks : goal.returns-in-Ok-put_counts-clause-checks
returns-in-Ok-put_counts-clause-checks g c =
    let these = c.in-Ok.ensures.records.0 in record {
      readers = Ok c.in_ok-readers.readers.items;
      opened = c.in_ok-readers.ensures.opened;
      rest = (
        these.records,
        these.are_of,
        record {
          checks = (
            (
              check_text c.in-Ok.database.definitions c.in-Ok.database.tables,
              check-loaded c.args.schema.now these.records c.in-Ok.database these.loads c.in-Ok.ensures.schema,
              c.in-Ok-put_counts.ensures.ok,
            ),
            tt,
          );
          failures = c.in-Ok-put_counts.ensures.failures;
        },
      );
    }

pub returns-clause-checks : goal.returns-clause-checks
returns-clause-checks g c =
    let these = c.in-Ok.ensures.records.0 in record {
      readers = Ok c.in_ok-readers.readers.items;
      opened = c.in_ok-readers.ensures.opened;
      rest = (
        these.records,
        these.are_of,
        record {
          checks = (
            faults.Sink,
            refl,
            (
              (
                check_text c.in-Ok.database.definitions c.in-Ok.database.tables,
                check-loaded c.args.schema.now these.records
                    c.in-Ok.database these.loads c.in-Ok.ensures.schema,
                c.in-Err-put_counts.ensures.front,
              ),
              tt,
            ),
          );
          failures = c.in-Err-put_counts.ensures.failures;
        },
      );
    }
