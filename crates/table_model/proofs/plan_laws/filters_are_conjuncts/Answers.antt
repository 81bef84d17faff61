use Rattle.table_model.proofs.FilterFacts.{filters_counted}
use Rattle.table_model.proofs.plan_laws.filters_are_conjuncts.Goals as goal

pub returns : goal.returns
returns c = λ conjuncts place. filters_counted conjuncts place
