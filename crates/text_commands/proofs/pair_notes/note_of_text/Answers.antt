-- The fault is the first of the text.
use Rattle.std.proofs.Common.{subst}
use Rattle.text_commands.specs.Explanations.{IsFirst}
use Rattle.text_commands.proofs.pair_notes.note_of_text.Goals as goal

pub note_of_fault-requires : goal.note_of_fault-requires
note_of_fault-requires c = subst (λ found. IsFirst c.args.text.now found) c.in-Ok-Some.field-0-is c.in-Ok-Some.ensures
