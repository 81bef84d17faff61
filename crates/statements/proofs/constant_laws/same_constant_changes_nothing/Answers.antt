use Rattle.statements.proofs.QueryFacts.{same_constant}
use Rattle.statements.proofs.constant_laws.same_constant_changes_nothing.Goals as goal

pub returns : goal.returns
returns c = same_constant
