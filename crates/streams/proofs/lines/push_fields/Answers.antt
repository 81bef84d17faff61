use Rattle.std.proofs.Common.{◌<◌, length}
use Rattle.csv.specs.Records.{fields_of}
use Rattle.streams.proofs.LineLemmas.{field-added, no-field}
use Rattle.streams.proofs.lines.push_fields.Goals.{in-Some+in_ok-push_separator+in_ok-push_field, in_default}
use Rattle.streams.proofs.lines.push_fields.Goals as goal

pub loop-i-preserved : goal.loop-i-preserved
loop-i-preserved c =
    let lt : c.loop-i.i < length (fields_of c.args.fields.now) = rw (← c.len-i-end.ensures) c.loop-i-test.true in
    elim c.match-get.branch [
      | in-Some+in_ok-push_separator+in_ok-push_field w ↦
          let is = rw w.in-Some.is at c.get.ensures.value in
          rw w.line-is (field-added (fields_of c.args.fields.now) c.loop-i.i _ _ _ _ lt is c.loop-i.invariant w.in_ok-push_separator.ensures w.in_ok-push_field.ensures)
      | in_default w ↦
          let none = rw w.in_default.is at c.get.ensures.value in
          no-field (fields_of c.args.fields.now) c.loop-i.i lt none
    ]
