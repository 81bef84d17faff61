use Rattle.std.proofs.Common.{◌≡◌, [], map, take}
use Rattle.csv.specs.Records.{fields_of, partial_of}
use Rattle.tiles.specs.RecordLines.{name_at}
use Rattle.tiles.proofs.record_lines.names.Given as goal

-- the names so far
abbrev pub invariant-loop-column : goal.invariant-loop-column
invariant-loop-column l = record {
  fields : fields_of l.line ≡ map (name_at l.columns) (take l.column-index l.copied);
  ended : partial_of l.line ≡ [];
}
