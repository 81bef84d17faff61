-- Each exit of loading and running: over the records of known texts, and over records that are there whatever the readers are.
use Rattle.std.proofs.Common.{Err, Ok, OnOk, Result, inl, inr, length, map, refl, rules, ℕ}
use Rattle.failures.specs.declared.run_fault.Fault.{Fault}
use Rattle.feature_table.specs.Tables.{records_in}
use Rattle.query_runs.specs.RowCounts.{CountsLoaded}
use Rattle.query_runs.specs.Runs.{IsOfTables, ShowsRun}
use Rattle.query_runs.proofs.RunLemmas.{load-of-tables, load-shows, loaded-counts, loaded-runs, no-count, none-show, of-fault, unloaded-runs}
use Rattle.query_runs.proofs.runs.load_and_answer.Goals as goal

pub returns-in_err-database-clause-runs : goal.returns-in_err-database-clause-runs
returns-in_err-database-clause-runs g c = λ text read.
    let these = c.in_err-database.ensures.records.0 in record {
      texts = λ texts known matrix gives.
          unloaded-runs c.from_residual.result c.in_err-database.field-0.0 matrix c.args.schema.now (map records_in texts) text
          c.args.query.now
          (g.S.Sink.taken c.args.sink.now) c.from_residual.ensures.1 read (c.in_err-database.ensures.loads texts known)
          c.in_err-database.ensures.table (c.in_err-database.ensures.earlier texts known);
      work = λ texts known matrix gives. no-count c.from_residual.result _ _ c.from_residual.ensures.1;
      records = (
        these.records,
        these.are_of,
        λ matrix gives. unloaded-runs c.from_residual.result c.in_err-database.field-0.0 matrix c.args.schema.now these.records
            text c.args.query.now
            (g.S.Sink.taken c.args.sink.now) c.from_residual.ensures.1 read these.loads
            c.in_err-database.ensures.table these.earlier,
        λ matrix gives. no-count c.from_residual.result _ _ c.from_residual.ensures.1,
      );
      failures = search rules;
      table = of-fault c.from_residual.result _ (IsOfTables (length c.args.schema.now)) c.from_residual.ensures.1
          (load-of-tables (length c.args.schema.now) c.in_err-database.field-0.0 c.in_err-database.ensures.table);
    }

pub returns-clause-runs : goal.returns-clause-runs
returns-clause-runs g c = λ text read.
    let these = c.in_ok-database.ensures.records.0 in record {
      texts = λ texts known matrix gives.
          loaded-runs c.answer_query.result matrix c.in_ok-database.database c.args.schema.now (map records_in texts) text
          c.args.query.now
          (g.S.Sink.taken c.args.sink.now) (g.S.Sink.taken c.answer_query.new.sink)
          read (c.in_ok-database.ensures.loads texts known) c.in_ok-database.ensures.schema
          (c.answer_query.ensures.answer matrix gives);
      work = λ texts known matrix gives.
          loaded-counts c.answer_query.result matrix c.in_ok-database.database c.args.schema.now (map records_in texts) text
          c.args.query.now
          read (c.in_ok-database.ensures.loads texts known) c.in_ok-database.ensures.schema
          (c.answer_query.ensures.work matrix gives);
      records = (
        these.records,
        these.are_of,
        λ matrix gives. loaded-runs c.answer_query.result matrix c.in_ok-database.database c.args.schema.now these.records text
            c.args.query.now
            (g.S.Sink.taken c.args.sink.now) (g.S.Sink.taken c.answer_query.new.sink)
            read these.loads c.in_ok-database.ensures.schema (c.answer_query.ensures.answer matrix gives),
        λ matrix gives. loaded-counts c.answer_query.result matrix c.in_ok-database.database c.args.schema.now these.records text
            c.args.query.now
            read these.loads c.in_ok-database.ensures.schema (c.answer_query.ensures.work matrix gives),
      );
      failures = c.answer_query.ensures.failures;
      table = c.answer_query.ensures.table (length c.args.schema.now);
    }

pub returns-clause-counts : goal.returns-clause-counts
returns-clause-counts g c texts known =
    let counted : CountsLoaded c.args.schema.now (map records_in texts) c.args.counts.now c.count_rows.new.counts =
    (c.in_ok-database.database.tables, c.in_ok-database.ensures.loads texts known, c.count_rows.ensures) in
    elim c.answer_query.result as
    (λ (result : Result ℕ Fault). OnOk result
    (CountsLoaded c.args.schema.now (map records_in texts) c.args.counts.now c.count_rows.new.counts))
    [ Ok work ↦ counted | Err fault ↦ tt ]

pub returns-in_err-database-clause-leaves : goal.returns-in_err-database-clause-leaves
returns-in_err-database-clause-leaves g c = λ text read.
    let these = c.in_err-database.ensures.records.0 in record {
      records = these.records;
      are_of = these.are_of;
      runs = λ matrix gives. unloaded-runs c.from_residual.result c.in_err-database.field-0.0 matrix c.args.schema.now
          these.records text c.args.query.now
          (g.S.Sink.taken c.args.sink.now) c.from_residual.ensures.1 read these.loads
          c.in_err-database.ensures.table these.earlier;
      counts = inl refl;
      shows = of-fault c.from_residual.result _ (ShowsRun these.records _ _) c.from_residual.ensures.1
          (load-shows these.records _ _ c.in_err-database.field-0.0 c.in_err-database.ensures.records.1);
    }

pub returns-clause-leaves : goal.returns-clause-leaves
returns-clause-leaves g c = λ text read.
    let these = c.in_ok-database.ensures.records.0 in record {
      records = these.records;
      are_of = these.are_of;
      runs = λ matrix gives. loaded-runs c.answer_query.result matrix c.in_ok-database.database c.args.schema.now
          these.records text c.args.query.now
          (g.S.Sink.taken c.args.sink.now) (g.S.Sink.taken c.answer_query.new.sink)
          read these.loads c.in_ok-database.ensures.schema (c.answer_query.ensures.answer matrix gives);
      counts = inr (c.in_ok-database.database.tables, these.loads, c.count_rows.ensures);
      shows = none-show c.answer_query.result these.records _ _ (c.answer_query.ensures.table 0);
    }
