-- The notes are written, or a beginning of them.
use Rattle.std.proofs.Common.{inr, subst}
use Rattle.explanations.specs.Notes.{AreNotes}
use Rattle.text_commands.proofs.EndLemmas.{writes}
use Rattle.text_commands.specs.Explanations.{Adds}
use Rattle.engine.proofs.commands.note_query.Goals as goal

pub returns-in-Ok : goal.returns-in-Ok
returns-in-Ok g c =
    let puts = c.put_all.ensures in
    let notes = c.in-Ok.notes.items in
    inr (
      notes,
      subst (λ text. AreNotes text notes) c.as_bytes.ensures.value c.in-Ok.ensures,
      subst (λ text. Adds g.M.Sink.taken g.M.Sink.failures c.args.more.now c.put_all.new.sink text) c.as_slice-in-Ok.ensures.value
          (writes c.put_all.result _ _ _ _ _ puts.ok puts.front puts.failures),
    )
