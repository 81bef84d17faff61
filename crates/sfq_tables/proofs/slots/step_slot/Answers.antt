-- The slot has the statement after its step.
use Rattle.std.proofs.Common.{Some, refl, subst, sym}
use Rattle.std.specs.Prelude.{IfSome}
use Rattle.sfq_tables.specs.OpenStatements.{HasStepped}
use Rattle.sfq_tables.proofs.slots.step_slot.Goals as goal

pub returns-in-Some-clause-stepped : goal.returns-in-Some-clause-stepped
returns-in-Some-clause-stepped c =
    subst
    (λ o. IfSome o
    (λ before. HasStepped c.args.most c.args.database.now before c.status_of.result
    (Some c.step_within-stepped.new.self)))
    (sym c.in-Some.is)
    (record {
      result = c.step_within-stepped.result;
      statement = c.step_within-stepped.new.self;
      steps = c.step_within-stepped.ensures.steps;
      busy = c.step_within-stepped.ensures.busy;
      status_is = c.status_of.ensures;
      there = refl;
    })
