use Rattle.std.proofs.Common.{◌∙◌, ap, sym}
use Rattle.std.proofs.lemmas.Result.{IfOk-weaker}
use Rattle.table_model.specs.Plans as spec
use Rattle.table_model.specs.declared.plans.Plan.{Plan}
use Rattle.table_model.proofs.LeastFacts.{between, first_is_first}
use Rattle.planner.specs.Nestings.{chosen_for}
use Rattle.planner.proofs.chosen_plans.choose.Goals as goal

pub returns-clause-chosen : goal.returns-clause-chosen
returns-clause-chosen g c =
    let counts = c.as_slice-2.ensures.value ∙ c.in_ok-counts.ensures ∙ ap (spec.row_counts c.args.database.now.tables) c.as_slice.ensures in
    IfOk-weaker c.choose_by_counts.result _ _ (λ plan is. ap (λ ns. chosen_for ns c.args.query.now) (sym counts) ∙ is) c.choose_by_counts.ensures

pub returns-clause-lawful : goal.returns-clause-lawful
returns-clause-lawful g c =
    let counts = c.as_slice-2.ensures.value ∙ c.in_ok-counts.ensures ∙ ap (spec.row_counts c.args.database.now.tables) c.as_slice.ensures in
    let plans = spec.lawful_plans c.args.database.now.tables c.args.query.now in
    IfOk-weaker c.choose_by_counts.result _ _
    (λ plan is.
    let f = first_is_first (λ (p : Plan). p.cost) plans plan (ap (λ ns. chosen_for ns c.args.query.now) (sym counts) ∙ is) in
    between plans f.before f.after plan f.parted)
    c.choose_by_counts.ensures
