use Rattle.sql_text.proofs.Ascii.{IsUtf8-from_is_ascii}
use Rattle.sql_text.proofs.definition.owned_word.Goals as goal

pub unreachable-requires : goal.unreachable-requires
unreachable-requires c = c.in-Err.ensures.cases.0 (IsUtf8-from_is_ascii _ c.requires)
