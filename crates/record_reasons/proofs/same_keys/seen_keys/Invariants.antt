-- The records that were read are the header, and then as many as there were turns, which have these keys.
use Rattle.std.proofs.Common.{◌≡◌, ◌+◌, ℕ, List, ◌∷◌, Option, length, map}
use Rattle.csv.specs.Records.{fields_of}
use Rattle.csv.specs.contracts.record.ByteRecord.{the_view}
use Rattle.feature_table.specs.Records.{IsReady, asked}
use Rattle.record_reasons.specs.Reasons.{key_under}
use Rattle.record_reasons.specs.SeenRecords.{AreAllOf, HasRead}
use Rattle.table_model.specs.Loading.{Record}
use Rattle.record_reasons.proofs.same_keys.seen_keys.Given as goal

abbrev pub invariant-loop-place : goal.invariant-loop-place
invariant-loop-place g l = record {
  ready : IsReady l.records;
  asked : asked l.records ≡ l._place + 1;
  read : (rest : List Record) × (length rest ≡ l._place) × (l.keys.items ≡ map (key_under l.table (fields_of (the_view l.header-inside))) rest)
      × ((known : Option (List ℕ)) → AreAllOf g.R.Read.remaining known l.fn.records
      → HasRead g.R.Read.remaining known l.records (fields_of (the_view l.header-inside) ∷ rest));
}
