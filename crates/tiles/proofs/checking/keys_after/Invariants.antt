use Rattle.std.proofs.Common.{List}
use Rattle.feature_table.specs.GeometryFields.{reading}
use Rattle.feature_table.specs.Layouts.{IsLayout}
use Rattle.tiles.specs.PlainRecords.{GivesRest, IsReady}
use Rattle.table_model.specs.Loading.{Record}
use Rattle.tiles.proofs.PassLemmas.{AreRead, Midway}
use Rattle.tiles.specs.Checks.{record_key}
use Rattle.tiles.proofs.checking.keys_after.Given as goal

abbrev pub invariant-loop-place : goal.invariant-loop-place
invariant-loop-place g l = record {
  ready : IsReady l.records;
  midway : (header : Record) (rest : List Record) → IsLayout l.table.columns header l.layout → GivesRest g.R.Read.remaining l.fn.records rest
      → Midway g.R.Read.remaining l.records (record_key reading l.table header) rest l.place l.keys.items;
  read : (header : Record) → IsLayout l.table.columns header l.layout → AreRead (record_key reading l.table header) l.place l.keys.items;
}
