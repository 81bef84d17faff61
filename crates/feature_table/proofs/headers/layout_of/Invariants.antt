use Rattle.std.proofs.Common.{◌≡◌, drop, map, take}
use Rattle.csv.specs.Records.{fields_of}
use Rattle.table_model.specs.Loading.{header_fault, place_in}
use Rattle.feature_table.proofs.headers.layout_of.Given as goal

abbrev pub invariant-loop-column : goal.invariant-loop-column
invariant-loop-column l = record {
  places : l.places.items ≡ map (λ c. place_in (fields_of l.header) c.name) (take l.column-index l.columns);
  faults : header_fault (drop l.column-index l.columns) (fields_of l.header) ≡ header_fault l.columns (fields_of l.header);
}
