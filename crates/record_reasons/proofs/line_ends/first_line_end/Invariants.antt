-- As many records were read as there were turns, and none holds one.
use Rattle.std.proofs.Common.{◌≡◌, ℕ, List, Option, length}
use Rattle.feature_table.specs.Records.{IsReady, asked}
use Rattle.record_reasons.proofs.LineLemmas.{NoneHolds}
use Rattle.record_reasons.specs.SeenRecords.{AreAllOf, HasRead}
use Rattle.table_model.specs.Loading.{Record}
use Rattle.record_reasons.proofs.line_ends.first_line_end.Given as goal

abbrev pub invariant-loop-number : goal.invariant-loop-number
invariant-loop-number g l = record {
  ready : IsReady l.records;
  asked : asked l.records ≡ l.number;
  read : (read : List Record) × (length read ≡ l.number) × NoneHolds read × ((known : Option (List ℕ))
      → AreAllOf g.R.Read.remaining known l.fn.records → HasRead g.R.Read.remaining known l.records read);
}
