use Rattle.table_model.proofs.TruthFacts.{conjuncts_are_joined}
use Rattle.table_model.proofs.truths.conjuncts_are_joined.Goals as goal

pub returns : goal.returns
returns c = conjuncts_are_joined
