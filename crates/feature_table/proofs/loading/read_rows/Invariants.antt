use Rattle.std.proofs.Common.{◌+◌, ◌*◌, ◌≤◌, ◌≡◌, List, length}
use Rattle.feature_table.proofs.LoadingLemmas.{AreRead, Midway}
use Rattle.feature_table.specs.FlatRows.{first_rows}
use Rattle.feature_table.specs.GeometryFields.{reading}
use Rattle.feature_table.specs.Layouts.{IsLayout}
use Rattle.feature_table.specs.Records.{Gives, IsReady, asked}
use Rattle.table_model.specs.Loading.{Record, row_limit}
use Rattle.feature_table.proofs.loading.read_rows.Given as goal

abbrev pub invariant-loop-place : goal.invariant-loop-place
invariant-loop-place g l = record {
  ready : IsReady l.records;
  asked : asked l.records ≡ 1 + l.place;
  within : (header : Record) → IsLayout l.table.columns header l.layout → l.place ≤ row_limit;
  width : length l.values ≡ l.place * length l.table.columns;
  midway : (header : Record) (rest : List Record) → IsLayout l.table.columns header l.layout → Gives g.R.Read.remaining l.fn.records rest
      → Midway g.R.Read.remaining l.records reading l.table header rest l.place (first_rows (length l.table.columns) l.values l.place);
  read : (header : Record) → IsLayout l.table.columns header l.layout
      → AreRead reading l.table header l.place (first_rows (length l.table.columns) l.values l.place);
}
