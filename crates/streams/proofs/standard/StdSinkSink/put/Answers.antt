use Rattle.std.proofs.Common.{arith}
use Rattle.std.proofs.lemmas.Grind.{common_steps}
use Rattle.streams.proofs.standard.StdSinkSink.put.Goals as goal

pub returns-else-taken-eq0-clause-some : goal.returns-else-taken-eq0-clause-some
returns-else-taken-eq0-clause-some g c = grind (arith, common_steps)
