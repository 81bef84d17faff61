use Rattle.std.proofs.Common.{◌≡◌, map}
use Rattle.csv.specs.Records.{fields_of}
use Rattle.feature_table.proofs.EachLemmas.{Passed}
use Rattle.feature_table.specs.GeometryFields.{reading}
use Rattle.table_model.specs.Loading.{Record, place_in, values_of}
use Rattle.feature_table.proofs.typed_rows.row_of.Given as goal

abbrev pub invariant-loop-place : goal.invariant-loop-place
invariant-loop-place l = (header : Record) → l.places ≡ map (λ c. place_in header c.name) l.table.columns
    → Passed (values_of reading l.table header l.number (fields_of l.record)) l.place l.values.items
