use Rattle.std.proofs.Common.{◌≡◌, take}
use Rattle.csv.specs.Records.{fields_of}
use Rattle.csv.specs.Writing.{default_writer, row_body}
use Rattle.streams.proofs.lines.push_fields.Given as goal

-- the line is that of the fields so far
abbrev pub invariant-loop-i : goal.invariant-loop-i
invariant-loop-i l = l.line.items ≡ row_body default_writer (take l.i (fields_of l.fields))
