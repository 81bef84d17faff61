-- What was read up to the limit is the beginning of what the reader beneath gives.
use Rattle.std.proofs.Common.{◌≡◌, ◌++◌, ℕ, List, IfSome, subst}
use Rattle.std.specs.Io.Take.{take_remaining}
use Rattle.text_commands.proofs.TakenBytes.{taken-from}
use Rattle.engine.specs.declared.commands.TheConstants.{SCHEMA_BYTES}
use Rattle.engine.proofs.commands.schema_text.Goals as goal

pub returns-in-Ok-clause-text : goal.returns-in-Ok-clause-text
returns-in-Ok-clause-text g c =
    let P : List ℕ → Type 0 = λ old. IfSome (take_remaining g.R.Read.remaining c.take.result) (λ bytes. c.read_to_end.new.buf.items ≡ old ++ bytes) in
    taken-from g.R.Read.remaining c.take.result c.args.file SCHEMA_BYTES c.read_to_end.new.buf.items c.take.ensures.limit c.take.ensures.inner
    (subst P c.new-text.ensures.items c.in-Ok.ensures.bytes)
