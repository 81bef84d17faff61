-- So many fields before this place have the name.
use Rattle.std.proofs.Common.{◌≡◌, ◌≤◌, take}
use Rattle.std.specs.List.{count_by}
use Rattle.csv.specs.Records.{fields_of}
use Rattle.table_model.specs.Texts.{same_name}
use Rattle.record_reasons.proofs.header_reasons.occurrences.Given as goal

abbrev pub invariant-loop-place : goal.invariant-loop-place
invariant-loop-place l = record {
  count : l.found ≡ count_by (same_name l.name) (take l.place (fields_of l.header));
  low : l.found ≤ l.place;
}
