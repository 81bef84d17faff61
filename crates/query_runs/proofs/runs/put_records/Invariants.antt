use Rattle.std.proofs.Common.{◌≡◌, length, map}
use Rattle.std.specs.List.{concat}
use Rattle.executor.specs.Streams.{to_come, work_at_end}
use Rattle.geometry_model.specs.Labels.{labelled_matrix}
use Rattle.streams.specs.RecordWriters.{IsReady}
use Rattle.table_model.specs.RunOutcomes.{ByEveryMatrix}
use Rattle.query_runs.specs.Runs.{choice_text}
use Rattle.query_runs.proofs.RecordLemmas.{PutBut}
use Rattle.query_runs.proofs.runs.put_records.Given as goal

-- all records were put but those of the rows that are still to come, and no put has failed
abbrev pub invariant-loop-row : goal.invariant-loop-row
invariant-loop-row g l = record {
  put : ByEveryMatrix (λ matrix. PutBut (concat (map (choice_text l.database l.query) (to_come matrix l.rows)))
      (concat (map (choice_text l.database l.query) (to_come matrix l.fn.rows)))
      (g.S.Sink.taken l.fn.sink) (g.S.Sink.taken l.sink));
  counted : ByEveryMatrix (λ matrix. work_at_end matrix l.rows ≡ work_at_end matrix l.fn.rows);
  tables : l.rows.tables ≡ l.fn.rows.tables;
  ready : IsReady l.writer;
  same : g.S.Sink.failures l.sink ≡ g.S.Sink.failures l.fn.sink;
}

abbrev pub decreases-loop-row : goal.decreases-loop-row
decreases-loop-row g l = length (to_come labelled_matrix l.rows)
