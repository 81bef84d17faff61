use Rattle.statements.proofs.QueryFacts.{one_replaced}
use Rattle.statements.proofs.constant_laws.one_constant_is_replaced.Goals as goal

pub returns : goal.returns
returns c = one_replaced
