-- The first geometry is refused; or it isn't, and the second may be.
use Rattle.std.proofs.Common.{codes, inl, inr, subst}
use Rattle.std.proofs.lemmas.Option.{IfSome_then}
use Rattle.text_commands.specs.Explanations.{HasNone, IsFirst}
use Rattle.text_commands.specs.PairNotes.{NotesText}
use Rattle.text_commands.proofs.pair_notes.note_of.Goals as goal

pub note_of_fault-requires : goal.note_of_fault-requires
note_of_fault-requires c =
    subst (λ found. IsFirst c.field_at-first.result.now found) c.in-Ok-Some.field-0-is c.in-Ok-Some.ensures

pub returns-in_ok-line-in-Ok-Some : goal.returns-in_ok-line-in-Ok-Some
returns-in_ok-line-in-Ok-Some c =
    let line = c.in_ok-line-in-Ok-Some.line.items in
    inl (subst (λ t. NotesText c.args.number (codes "first") t line) c.field_at-first.ensures c.in_ok-line-in-Ok-Some.ensures)

pub returns-in_ok-found-in-Ok-None : goal.returns-in_ok-found-in-Ok-None
returns-in_ok-found-in-Ok-None c =
    IfSome_then c.in_ok-found-in-Ok-None.found c.in_ok-found-in-Ok-None.ensures (λ line notes. inr (
      subst HasNone c.field_at-first.ensures
          (subst (λ found. IsFirst c.field_at-first.result.now found) c.in-Ok-None.field-0-is c.in-Ok-None.ensures),
      subst (λ t. NotesText c.args.number (codes "second") t line.items) c.field_at-second.ensures notes,
    ))
