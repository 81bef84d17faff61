use Rattle.std.proofs.Common.{◌≡◌, ◌++◌, [], map, take}
use Rattle.csv.specs.Records.{fields_of, partial_of}
use Rattle.tiles.specs.RecordLines.{names_of}
use Rattle.tiles.proofs.record_lines.marked_names.Given as goal

-- the names so far
abbrev pub invariant-loop-mark : goal.invariant-loop-mark
invariant-loop-mark l = record {
  fields : fields_of l.line ≡ names_of l.part.table.now.columns l.part.columns.now ++ map (λ mark. mark.now) (take l.mark-index l.part.marks);
  ended : partial_of l.line ≡ [];
}
