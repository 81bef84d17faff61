use Rattle.table_model.specs.Plans.{lawful_plans}
use Rattle.table_model.proofs.LeastFacts.{first_is_first}
use Rattle.table_model.proofs.plan_laws.chosen_is_first.Goals as goal

pub returns : goal.returns
returns c = λ tables query plan e. first_is_first (λ p. p.cost) (lawful_plans tables query) plan e
