-- What is written is the note on the text, or a beginning of it.
use Rattle.std.proofs.Common.{inr, subst}
use Rattle.text_commands.proofs.EndLemmas.{writes}
use Rattle.text_commands.specs.Explanations.{Adds}
use Rattle.engine.proofs.commands.put_open_quote.Goals as goal

pub returns-in-Ok : goal.returns-in-Ok
returns-in-Ok g c =
    let puts = c.put_all.ensures in
    inr (
      c.in-Ok.note.items,
      c.in-Ok.ensures.note,
      subst (λ text. Adds g.M.Sink.taken g.M.Sink.failures c.args.more.now c.put_all.new.sink text) c.as_slice.ensures.value
          (writes c.put_all.result _ _ _ _ _ puts.ok puts.front puts.failures),
    )
