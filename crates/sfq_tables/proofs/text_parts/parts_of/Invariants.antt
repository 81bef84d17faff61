use Rattle.std.proofs.Common.{◌≡◌, ◌++◌, drop}
use Rattle.sfq_tables.specs.TextParts.{at_first, text_parts_from}
use Rattle.sfq_tables.proofs.text_parts.parts_of.Given as goal

abbrev pub invariant-loop-token : goal.invariant-loop-token
invariant-loop-token l =
    l.parts.items ++ text_parts_from l.text l.before (drop l.token-index l.found) ≡ text_parts_from l.text at_first l.found
