-- What was read is the beginning of the file, and all of it where it isn't longer than the limit.
use Rattle.std.proofs.Common.{rules, ◌≡◌, ◌+◌, ◌++◌, ℕ, List, IfSome, subst}
use Rattle.std.specs.Io.Take.{take_remaining}
use Rattle.text_commands.proofs.TakenBytes.{taken-from, whole}
use Rattle.text_commands.proofs.given_texts.whole_text.Goals as goal

pub returns-in-Ok-clause-text : goal.returns-in-Ok-clause-text
returns-in-Ok-clause-text g c =
    let P : List ℕ → Type 0 = λ old. IfSome (take_remaining g.R.Read.remaining c.take.result) (λ bytes. c.read_to_end.new.buf.items ≡ old ++ bytes) in
    whole (g.R.Read.remaining c.args.file) c.args.limit c.read_to_end.new.buf.items
    (taken-from g.R.Read.remaining c.take.result c.args.file (c.args.limit + 1) c.read_to_end.new.buf.items c.take.ensures.limit c.take.ensures.inner
    (subst P c.new-text.ensures.items c.in-Ok.ensures.bytes))
    (search rules)
