use Rattle.std.proofs.Common.{arith, rules}
use Rattle.std.proofs.lemmas.Grind.{common_steps}
use Rattle.sql_text.proofs.condition.all_of.Goals as goal

pub returns-in-Ok : goal.returns-in-Ok
returns-in-Ok c = first_of (search rules, grind (arith, common_steps))
