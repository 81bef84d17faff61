use Rattle.std.specs.Prelude.{◌≤◌}
use Rattle.std.proofs.lemmas.List.Elements.{All-contains}
use Rattle.table_model.specs.Plans.{lawful_plans}
use Rattle.table_model.proofs.LeastFacts.{first_is_first}
use Rattle.table_model.proofs.plan_laws.chosen_costs_least.Goals as goal

pub returns : goal.returns
returns c = λ tables query plan other e lawful.
    let f = first_is_first (λ p. p.cost) (lawful_plans tables query) plan e in
    All-contains (λ p. plan.cost ≤ p.cost) (lawful_plans tables query) other f.none_is_less lawful
