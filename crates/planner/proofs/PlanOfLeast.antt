-- The chosen plan is the plan of the cheapest accesses.
use Rattle.std.specs.Prelude.{◌≡◌, ℕ, List, map, Some, option_map}
use Rattle.std.proofs.Common.{ap, ◌∙◌}
use Rattle.table_model.specs.Plans.{plan_of, cost, lawful_accesses, first_of_least}
use Rattle.table_model.specs.declared.conditions.Cond.{Cond}
use Rattle.table_model.specs.declared.conditions.GeometryArgument.{GeometryArgument}
use Rattle.table_model.specs.declared.conditions.Reference.{Reference}
use Rattle.table_model.specs.declared.plans.Access.{Access}
use Rattle.planner.proofs.LeastMap.{least_map}

-- the plan of the first accesses of least cost is the first plan of least cost, for a plan costs what its accesses do
pub plan_of_least : {G : Type 0} (counts : List ℕ) (references : List Reference) (conjuncts : List (Cond (GeometryArgument G)))
    (least : List Access)
    → first_of_least (cost counts) (lawful_accesses references conjuncts) ≡ Some least
    → first_of_least (λ plan. plan.cost) (map (plan_of counts conjuncts) (lawful_accesses references conjuncts))
    ≡ Some (plan_of counts conjuncts least)
plan_of_least counts references conjuncts least is =
    least_map (plan_of counts conjuncts) (λ plan. plan.cost) (lawful_accesses references conjuncts)
    ∙ ap (option_map (plan_of counts conjuncts)) is
