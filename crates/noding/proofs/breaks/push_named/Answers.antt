use Rattle.std.proofs.Common.{arith}
use Rattle.std.proofs.lemmas.Grind.{common_steps}
use Rattle.noding.proofs.breaks.push_named.Goals as goal

pub returns-in_ok-push-in-Along-2 : goal.returns-in_ok-push-in-Along-2
returns-in_ok-push-in-Along-2 c = grind (arith, common_steps)
