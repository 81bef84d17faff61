-- The line was written, or a beginning of it.
use Rattle.std.proofs.Common.{◌∙◌, inr, subst}
use Rattle.text_commands.proofs.EndLemmas.{writes}
use Rattle.text_commands.specs.Explanations.{Adds}
use Rattle.text_commands.proofs.pair_faults.explain_unequal.Goals as goal

pub returns-in-Ok-clause-explains : goal.returns-in-Ok-clause-explains
returns-in-Ok-clause-explains g c =
    let puts = c.put_all.ensures in
    inr (subst (λ text. Adds g.M.Sink.taken g.M.Sink.failures c.args.more.now c.put_all.new.sink text)
    (c.as_slice.ensures.value ∙ c.in-Ok.ensures)
    (writes c.put_all.result _ _ _ _ _ puts.ok puts.front puts.failures))
