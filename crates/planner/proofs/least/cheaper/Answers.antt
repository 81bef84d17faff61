use Rattle.std.proofs.Common.{◌≤◌, ◌<◌, ◌∷◌, [], Some, arith, subst, sym}
use Rattle.table_model.specs.Plans as spec
use Rattle.planner.proofs.Taken.{least_begins, least_changes, least_stays}
use Rattle.planner.specs.Nestings.{Takes, accesses_in}
use Rattle.planner.proofs.least.cheaper.Goals as goal

pub returns-then-cost : goal.returns-then-cost
returns-then-cost c =
    let less : spec.cost c.args.rows.now (accesses_in c.in-Some.least) ≤ spec.cost c.args.rows.now (accesses_in c.args.next) =
    omega (arith, c.cost.ensures, c.cost-in-Some.ensures) in
    subst (λ o. Takes c.args.rows.now o (Some c.in-Some.least) (accesses_in c.args.next ∷ [])) (sym c.in-Some.is)
    (least_stays c.args.rows.now c.in-Some.least c.args.next less)

pub returns-else-cost : goal.returns-else-cost
returns-else-cost c =
    let more : spec.cost c.args.rows.now (accesses_in c.args.next) < spec.cost c.args.rows.now (accesses_in c.in-Some.least) =
    omega (arith, c.cost.ensures, c.cost-in-Some.ensures) in
    subst (λ o. Takes c.args.rows.now o (Some c.args.next) (accesses_in c.args.next ∷ [])) (sym c.in-Some.is)
    (least_changes c.args.rows.now c.in-Some.least c.args.next more)

pub returns-in-None : goal.returns-in-None
returns-in-None c =
    subst (λ o. Takes c.args.rows.now o (Some c.args.next) (accesses_in c.args.next ∷ [])) (sym c.in-None.is)
    (least_begins c.args.rows.now c.args.next)
