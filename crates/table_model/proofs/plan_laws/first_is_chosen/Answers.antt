use Rattle.table_model.specs.Plans.{lawful_plans}
use Rattle.table_model.proofs.LeastFacts.{first_is_found}
use Rattle.table_model.proofs.plan_laws.first_is_chosen.Goals as goal

pub returns : goal.returns
returns c = λ tables query plan f. first_is_found (λ p. p.cost) (lawful_plans tables query) plan f
