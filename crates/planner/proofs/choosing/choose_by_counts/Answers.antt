use Rattle.std.proofs.Common.{ap, ◌∙◌, sym, Some}
use Rattle.std.proofs.lemmas.Result.{IfOk-weaker}
use Rattle.table_model.specs.Plans as spec
use Rattle.planner.specs.Nestings.{accesses_in}
use Rattle.planner.proofs.PlanOfLeast.{plan_of_least}
use Rattle.planner.proofs.choosing.choose_by_counts.Goals as goal

pub returns : goal.returns
returns g c =
    IfOk-weaker c.plan_of.result _ _
    (λ plan is.
    plan_of_least c.args.rows.now c.args.query.now.references c.args.query.now.conjuncts (accesses_in c.in_ok-nesting.nesting)
    (ap (λ cs. spec.first_of_least (spec.cost c.args.rows.now) (spec.lawful_accesses c.args.query.now.references cs)) (sym
    c.as_slice-conjuncts.ensures) ∙ c.in_ok-nesting.ensures)
    ∙ ap Some (sym (is ∙ ap (λ cs. spec.plan_of c.args.rows.now cs (accesses_in c.in_ok-nesting.nesting))
    c.as_slice-conjuncts.ensures)))
    c.plan_of.ensures
