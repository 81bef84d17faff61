-- What explains the fault is written, or a beginning of it.
use Rattle.std.proofs.Common.{inr, subst}
use Rattle.text_commands.proofs.EndLemmas.{writes}
use Rattle.text_commands.specs.Explanations.{Adds}
use Rattle.engine.proofs.commands.explain_load.Goals as goal

pub returns-in-Some : goal.returns-in-Some
returns-in-Some g c =
    let puts = c.put_all.ensures in
    inr (record {
      explanation = c.in-Some.explanation.items;
      explains = c.in-Some.ensures;
      written = subst (λ text. Adds g.M.Sink.taken g.M.Sink.failures c.args.more.now c.put_all.new.sink text)
          c.as_slice.ensures.value
          (writes c.put_all.result _ _ _ _ _ puts.ok puts.front puts.failures);
    })
