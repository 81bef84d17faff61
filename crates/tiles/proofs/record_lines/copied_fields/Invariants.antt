use Rattle.std.proofs.Common.{◌≡◌, [], map, take}
use Rattle.csv.specs.Records.{fields_of, partial_of}
use Rattle.tiles.specs.RecordLines.{field_in}
use Rattle.tiles.proofs.record_lines.copied_fields.Given as goal

-- the fields so far
abbrev pub invariant-loop-column : goal.invariant-loop-column
invariant-loop-column l = record {
  fields : fields_of l.line ≡ map (field_in l.places (fields_of l.fields)) (take l.column-index l.copied);
  ended : partial_of l.line ≡ [];
}
