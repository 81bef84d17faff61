-- The rows that are counted, or the fault that is found, in what the reader gives: the bytes of the table's file.
use Rattle.sfq_tiles.proofs.SplitLemmas.{counted_is_checked, fault_is}
use Rattle.sfq_tiles.proofs.inputs.look_again.Goals as goal

pub returns-in-Ok-clause-checked : goal.returns-in-Ok-clause-checked
returns-in-Ok-clause-checked g c =
    counted_is_checked (g.I.Sources.bytes c.args.sources.now) c.args.directory.now c.args.table.now c.as_str-name.result.now _
    c.as_str-name.ensures c.in_ok-reader.ensures.bytes _ (c.in-Ok.ensures.rows _ c.new-records.ensures.all)

pub returns-clause-ending : goal.returns-clause-ending
returns-clause-ending g c = (
  c.as_str-name.ensures,
  fault_is (g.I.Sources.bytes c.args.sources.now) c.args.directory.now c.args.table.now c.as_str-name.result.now _
      c.as_str-name.ensures c.in_ok-reader.ensures.bytes c.in-Err.fault (c.in-Err.ensures.rows _ c.new-records.ensures.all),
)
