-- The rows that are counted, or the fault that is found, in what the reader gives: the bytes of the table's file.
use Rattle.sfq_tiles.proofs.SplitLemmas.{key_fault_is, some_is_checked}
use Rattle.sfq_tiles.proofs.inputs.check_table.Goals as goal

pub returns-in-Some-clause-checked : goal.returns-in-Some-clause-checked
returns-in-Some-clause-checked g c =
    some_is_checked (g.I.Sources.bytes c.args.sources.now) c.args.directory.now c.args.table.now c.as_str-name.result.now _
    c.as_str-name.ensures c.in_ok-reader.ensures.bytes c.in-Ok.rows _ c.in-Some.is (c.in-Ok.ensures.counts _ c.new-records.ensures.all)

pub returns-clause-ending : goal.returns-clause-ending
returns-clause-ending g c = (
  c.as_str-name.ensures,
  key_fault_is (g.I.Sources.bytes c.args.sources.now) c.args.directory.now c.args.table.now c.as_str-name.result.now _
      c.as_str-name.ensures c.in_ok-reader.ensures.bytes c.in-Err.fault (c.in-Err.ensures.counts _ c.new-records.ensures.all),
)
