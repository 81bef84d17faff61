use Rattle.witnesses.proofs.FractionLemmas.{writes_least}
use Rattle.witnesses.proofs.fraction_laws.fractions_are_least.Goals as goal

pub returns : goal.returns
returns c = writes_least
