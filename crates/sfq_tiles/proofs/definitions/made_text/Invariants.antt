use Rattle.std.proofs.Common.{◌≡◌, map, take, string_bytes}
use Rattle.std.specs.List.{concat}
use Rattle.sfq_tiles.specs.SchemaTexts.{table_text}
use Rattle.sfq_tiles.proofs.definitions.made_text.Given as goal

-- the tables before this one were pushed
abbrev pub invariant-loop-part : goal.invariant-loop-part
invariant-loop-part l = string_bytes l.text ≡ concat (map table_text (take l.part-index l.parts))
