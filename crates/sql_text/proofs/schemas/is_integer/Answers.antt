use Rattle.std.proofs.Common.{rules}
use Rattle.sql_text.proofs.schemas.is_integer.Goals as goal

pub returns-in-Text : goal.returns-in-Text
returns-in-Text c = search rules
