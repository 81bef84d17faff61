use Rattle.std.proofs.Common.{arith, rules}
use Rattle.std.proofs.lemmas.Grind.{common_steps}
use Rattle.sql_text.proofs.select_reader.bad_place.Goals as goal

pub returns-then-same_kind : goal.returns-then-same_kind
returns-then-same_kind c = first_of (search rules, grind (arith, common_steps))

pub loop-token-preserved : goal.loop-token-preserved
loop-token-preserved c = first_of (search rules, grind (arith, common_steps))
