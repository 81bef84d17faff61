-- What is written is of the text that was read again; nothing, where there is none.
use Rattle.std.proofs.Common.{inl, refl, subst}
use Rattle.engine.proofs.NoteLemmas.{not-noted, noted}
use Rattle.engine.specs.Commands.{MayNoteText}
use Rattle.text_commands.specs.Files.{OpensFile}
use Rattle.engine.proofs.commands.put_note.Goals as goal

pub returns-clause-notes : goal.returns-clause-notes
returns-clause-notes g c = inl (c.in-None.ensures.none, refl)

pub returns-then-read-clause-notes : goal.returns-then-read-clause-notes
returns-then-read-clause-notes g c =
    noted (OpensFile g.F.FnMut) g.R.Read.remaining g.M.Sink.taken g.M.Sink.failures c.args.directory.now c.args.name.now _ _ _ _ _ _
    c.in-Some.ensures.reads c.if-read.true
    (subst (λ text. MayNoteText g.M.Sink.taken g.M.Sink.failures c.args.name.now text c.args.more.now c.note_text.new.more)
    c.as_slice.ensures.value c.note_text.ensures)

pub returns-in-Some-clause-notes : goal.returns-in-Some-clause-notes
returns-in-Some-clause-notes g c =
    not-noted (OpensFile g.F.FnMut) g.R.Read.remaining g.M.Sink.taken g.M.Sink.failures c.args.directory.now c.args.name.now _ _ _ _ _
    c.in-Some.ensures.reads
