-- The tables before this one were pushed; this one comes after them.
use Rattle.std.proofs.Common.{◌<◌, arith, length, string_bytes}
use Rattle.sfq_tiles.specs.SchemaTexts.{table_text}
use Rattle.sfq_tiles.proofs.TextLemmas.{part_pushed}
use Rattle.sfq_tiles.proofs.definitions.made_text.Goals as goal

pub loop-part-preserved : goal.loop-part-preserved
loop-part-preserved c =
    let within : c.loop-part.part-index < length c.args.parts.now = omega arith in
    part_pushed table_text c.args.parts.now c.loop-part.part-index c.part-item.result (string_bytes c.loop-part.text) _ within c.part-item.is c.loop-part.invariant c.in_ok-push_table.ensures
