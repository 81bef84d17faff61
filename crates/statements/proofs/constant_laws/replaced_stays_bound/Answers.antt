use Rattle.statements.proofs.QueryFacts.{stays_bound}
use Rattle.statements.proofs.constant_laws.replaced_stays_bound.Goals as goal

pub returns : goal.returns
returns c = stays_bound
