-- A step without a bound is never busy.
use Rattle.statements.proofs.WithinLemmas.{always_steps}
use Rattle.statements.proofs.prepared.Statement.step.Goals as goal

pub returns : goal.returns
returns g c =
    always_steps c.args.database.now c.args.self.now c.step_within.result c.step_within.new.self c.step_within.ensures.steps
    c.step_within.ensures.busy
