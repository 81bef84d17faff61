use Rattle.std.proofs.Common.{arith, rules}
use Rattle.std.proofs.lemmas.Grind.{common_steps}
use Rattle.table_model.specs.QueryReading.{integer}
use Rattle.sql_text.proofs.operand_reader.integer.Goals as goal

pub returns-in-None : goal.returns-in-None
unfolding integer
returns-in-None c = first_of (search rules, grind (arith, common_steps))
