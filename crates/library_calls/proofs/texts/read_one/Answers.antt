use Rattle.std.proofs.Common.{sym, ◌∙◌}
use Rattle.library_calls.proofs.Spelling.{spelled}
use Rattle.library_calls.proofs.texts.read_one.Goals as goal

pub returns-in-Ok-clause-spelled : goal.returns-in-Ok-clause-spelled
returns-in-Ok-clause-spelled c = spelled c.read_is_spelled.ensures c.args.text.now c.in-Ok.valid (sym c.in_ok-valid.ensures ∙ c.in-Ok.is)
