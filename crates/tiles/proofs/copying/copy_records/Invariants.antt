use Rattle.std.proofs.Common.{◌≡◌, List, length}
use Rattle.tiles.specs.PlainRecords.{IsReady}
use Rattle.table_model.specs.Loading.{Record}
use Rattle.tiles.specs.Copies.{AreAdded, WereRead, tiles}
use Rattle.tiles.proofs.copying.copy_records.Given as goal

-- the records that were read are in the tiles, and no put has failed
abbrev pub invariant-loop-place : goal.invariant-loop-place
invariant-loop-place g l = record {
  ready : IsReady l.records;
  same : g.T.CellTexts.failures l.texts ≡ g.T.CellTexts.failures l.fn.texts;
  read : (read : List Record) × (length read ≡ l._place) × WereRead g.R.Read.remaining l.fn.records l.records l.layout.width read
      × AreAdded (g.T.CellTexts.texts l.fn.texts) (g.T.CellTexts.texts l.texts) (tiles l.cells l.layout.places.items l.column l.columns read) l.counts.items;
}
