use Rattle.std.proofs.Common.{◌≡◌, ◌<◌, ◌≤◌, List, length}
use Rattle.csv.specs.Records.{fields_of}
use Rattle.tiles.specs.PlainRecords.{IsReady}
use Rattle.table_model.specs.Loading.{Record}
use Rattle.tiles.specs.Copies.{WereRead, copied_fields}
use Rattle.tiles.specs.Stretches.{AreFilled}
use Rattle.tiles.proofs.stretching.copy_stretches.Given as goal

-- the records that were read are in stretches, the last of which has `rows` of them, and no put has failed
abbrev pub invariant-loop-place : goal.invariant-loop-place
invariant-loop-place g l = record {
  ready : IsReady l.records;
  same : g.T.CellTexts.failures l.texts ≡ g.T.CellTexts.failures l.fn.texts;
  few : l.rows ≤ l.size;
  some : 0 < length l.counts.items → 0 < l.rows;
  read : (read : List Record) × WereRead g.R.Read.remaining l.fn.records l.records l.layout.width read
      × AreFilled (g.T.CellTexts.texts l.fn.texts) (g.T.CellTexts.texts l.texts) (fields_of l.header) (copied_fields l.layout.places.items l.columns) l.size read l.counts.items l.rows;
}
