-- The slot has the statement, which began anew.
use Rattle.std.proofs.Common.{Some, refl, subst, sym}
use Rattle.std.specs.Prelude.{IfSome}
use Rattle.sfq_tables.specs.OpenStatements.{HasBegunAnew}
use Rattle.sfq_tables.proofs.slots.begin_slot.Goals as goal

pub returns-in-Some-clause-begun : goal.returns-in-Some-clause-begun
returns-in-Some-clause-begun c =
    subst (λ o. IfSome o (λ before. HasBegunAnew c.args.database.now before (Some c.reset.new.self))) (sym c.in-Some.is)
    (record {
      statement = c.reset.new.self;
      begun = c.reset.ensures.begun;
      bound = c.reset.ensures.bound;
      plan = c.reset.ensures.plan;
      there = refl;
    })
