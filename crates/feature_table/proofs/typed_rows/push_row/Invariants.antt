use Rattle.std.proofs.Common.{◌≡◌, ◌+◌, length, map}
use Rattle.csv.specs.Records.{fields_of}
use Rattle.feature_table.proofs.EachLemmas.{Grown}
use Rattle.feature_table.specs.GeometryFields.{reading}
use Rattle.table_model.specs.Loading.{Record, place_in, values_of}
use Rattle.feature_table.proofs.typed_rows.push_row.Given as goal

abbrev pub invariant-loop-place : goal.invariant-loop-place
invariant-loop-place l = record {
  width : length l.values ≡ length l.fn.values + l.place;
  row : (header : Record) → l.places ≡ map (λ c. place_in header c.name) l.table.columns
      → Grown (values_of reading l.table header l.number (fields_of l.record)) l.place l.fn.values l.values;
}
