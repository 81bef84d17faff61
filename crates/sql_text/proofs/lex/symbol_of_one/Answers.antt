use Rattle.std.proofs.Common.{rules}
use Rattle.sql_text.proofs.lex.symbol_of_one.Goals as goal

pub returns-in-60 : goal.returns-in-60
returns-in-60 c = search rules
