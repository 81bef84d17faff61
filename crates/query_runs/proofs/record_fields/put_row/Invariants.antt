use Rattle.std.proofs.Common.{◌≡◌, map, take}
use Rattle.streams.specs.RecordWriters.{Holds}
use Rattle.table_model.specs.AnswerTexts.{item_text}
use Rattle.table_model.specs.GeometryColumns.{geometry_writing}
use Rattle.query_runs.proofs.record_fields.put_row.Given as goal

-- the record has the fields of the items before this one, and no put has failed
abbrev pub invariant-loop-item : goal.invariant-loop-item
invariant-loop-item g l = record {
  held : Holds l.writer (map (item_text geometry_writing l.rows) (take l.item-index l.query.items)) (g.S.Sink.taken l.fn.sink) (g.S.Sink.taken l.sink);
  same : g.S.Sink.failures l.sink ≡ g.S.Sink.failures l.fn.sink;
}
