-- Each exit of the steps of a run: a query that isn't read, and one that is returned over the tables.
use Rattle.std.proofs.Common.{inl, length, map, refl, rules}
use Rattle.feature_table.specs.Tables.{records_in}
use Rattle.query_runs.proofs.ReaderLemmas.{some-records}
use Rattle.query_runs.proofs.RunLemmas.{no-count, none-show, of-fault, query-of-tables, unread-runs}
use Rattle.query_runs.specs.Runs.{IsOfTables}
use Rattle.query_runs.proofs.runs.run_counted.Goals as goal

pub returns-in_err-query-clause-runs : goal.returns-in_err-query-clause-runs
returns-in_err-query-clause-runs g c =
    let these = some-records (map g.R.Read.remaining c.args.readers.items) in record {
      texts = λ texts known matrix gives.
          unread-runs c.from_residual.result c.in_err-query.field-0.0 matrix c.args.schema.now (map records_in texts)
          c.args.query.now (g.S.Sink.taken c.args.sink.now)
          c.from_residual.ensures.1 c.in_err-query.ensures.exact;
      work = λ texts known matrix gives. no-count c.from_residual.result _ _ c.from_residual.ensures.1;
      records = (
        these.0,
        these.1,
        λ matrix gives. unread-runs c.from_residual.result c.in_err-query.field-0.0 matrix c.args.schema.now these.0
            c.args.query.now (g.S.Sink.taken c.args.sink.now)
            c.from_residual.ensures.1 c.in_err-query.ensures.exact,
        λ matrix gives. no-count c.from_residual.result _ _ c.from_residual.ensures.1,
      );
      failures = search rules;
      table = of-fault c.from_residual.result _ (IsOfTables (length c.args.schema.now)) c.from_residual.ensures.1
          (query-of-tables (length c.args.schema.now) c.in_err-query.field-0.0);
    }

pub returns-then-as_slice-eq1-clause-runs : goal.returns-then-as_slice-eq1-clause-runs
returns-then-as_slice-eq1-clause-runs g c = c.load_and_answer.ensures.runs c.args.query.now c.in_ok-query.ensures.exact

pub returns-clause-runs : goal.returns-clause-runs
returns-clause-runs g c = c.load_and_answer-2.ensures.runs c.args.query.now c.in_ok-query.ensures.exact

pub returns-in_err-query-clause-leaves : goal.returns-in_err-query-clause-leaves
returns-in_err-query-clause-leaves g c =
    let these = some-records (map g.R.Read.remaining c.args.readers.items) in record {
      records = these.0;
      are_of = these.1;
      runs = λ matrix gives. unread-runs c.from_residual.result c.in_err-query.field-0.0 matrix c.args.schema.now these.0
          c.args.query.now (g.S.Sink.taken c.args.sink.now)
          c.from_residual.ensures.1 c.in_err-query.ensures.exact;
      counts = inl refl;
      shows = none-show c.from_residual.result these.0 _ _
          (of-fault c.from_residual.result _ (IsOfTables 0) c.from_residual.ensures.1 (query-of-tables 0 c.in_err-query.field-0.0));
    }

pub returns-then-as_slice-eq1-clause-leaves : goal.returns-then-as_slice-eq1-clause-leaves
returns-then-as_slice-eq1-clause-leaves g c = c.load_and_answer.ensures.leaves c.args.query.now c.in_ok-query.ensures.exact

pub returns-clause-leaves : goal.returns-clause-leaves
returns-clause-leaves g c = c.load_and_answer-2.ensures.leaves c.args.query.now c.in_ok-query.ensures.exact
